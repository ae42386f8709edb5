-- The choice at a node as the code reads it: its word, its name, and then its set.
use Rattle.std.proofs.Common.{◌≡◌, ℕ, List, true, false, codes, Option, Some, None, option_map, refl, sym, ap, ◌∙◌}
use Rattle.std.proofs.lemmas.Option.{same_Some}
use Rattle.std.specs.Str.{bytes_eq}
use Rattle.lists.specs.Options.{◌>>=◌}
use Rattle.lists.proofs.OptionLemmas.{bind_some}
use Rattle.game_core.specs.declared.tree.Kind.{Kind}
use Rattle.game_core.specs.declared.tree.Kind.TheVariants.{End}
use Rattle.game_core.specs.Tree.{kind_of_owner}
use Rattle.game_core.specs.declared.token.Token.{Token}
use Rattle.file_parts.specs.Reading.{word_at, text_at, optional_text_at, count_at}
use Rattle.written_trees.specs.Written.{SetUse}
use Rattle.written_trees.specs.Described.{key_of, kind_of_use}
use Rattle.written_trees.specs.Building.{PartialSet, use_set, use_some_set, set_place}
use Rattle.tree_grammar.proofs.PartValueLemmas.{choice_at, choice_after, choice_part_at, action_list_at, optional_at, set_use_at, set_part_at, set_choice_at, own_choice_at, own_use_at, chance_use_at, player_at}

-- a set's use is of the owner for whom it is read
use_owner : (owner : Option ℕ) (tokens : List Token) (x : SetUse × List Token) → set_use_at owner tokens ≡ Some x → x.0.owner ≡ owner
unfolding set_use_at
use_owner owner tokens x e =
    let label = bind_some (count_at tokens) _ x e in
    let list = bind_some (optional_at (action_list_at owner) (optional_text_at label.0.1).1) _ x label.2 in
    ap (λ (y : SetUse × List Token). y.0.owner) (sym (same_Some _ _ list.2))

-- a choice with its sets: who chooses, and the number of the set
abbrev pub Chosen : Type 0
Chosen = (List PartialSet × (Kind × Option ℕ)) × List Token

-- what a choice makes of the sets
abbrev pub as_choice : List PartialSet → Option SetUse → List Token → List PartialSet → Option Chosen
as_choice sets used rest more = Some ((more, (kind_of_use used, option_map (λ u. set_place sets (key_of u)) used)), rest)

-- the choice at a set of this owner
abbrev pub at_set : Option ℕ → (List PartialSet × ℕ) × List Token → Option Chosen
at_set owner x = Some ((x.0.0, (kind_of_owner owner, Some x.0.1)), x.1)

abbrev as_use : SetUse × List Token → Option (Option SetUse × List Token)
as_use x = Some (Some x.0, x.1)

-- the sets with the place of the one that is used
abbrev with_place : List PartialSet → SetUse × List Token → List PartialSet → Option ((List PartialSet × ℕ) × List Token)
with_place sets x more = Some ((more, set_place sets (key_of x.0)), x.1)

-- the choice at a set is a step of the set
set_choice : (k : ℕ) (sets : List PartialSet) (owner : Option ℕ) (tokens : List Token)
    → ((set_use_at owner tokens >>= as_use) >>= λ c. use_some_set k sets c.0 >>= as_choice sets c.0 c.1) ≡ set_choice_at k sets owner tokens
unfolding set_part_at
set_choice k sets owner tokens = go (set_use_at owner tokens) (λ x e. use_owner owner tokens x e)
  where
    owned : (x : SetUse × List Token) (S : Option (List PartialSet)) → x.0.owner ≡ owner → (S >>= as_choice sets (Some x.0) x.1) ≡ ((S >>= with_place sets x) >>= at_set owner)
    owned x None o = refl
    owned x (Some more) o = rw o refl

    go : (U : Option (SetUse × List Token)) → ((x : SetUse × List Token) → U ≡ Some x → x.0.owner ≡ owner)
        → ((U >>= as_use) >>= λ c. use_some_set k sets c.0 >>= as_choice sets c.0 c.1) ≡ ((U >>= λ x. use_set k sets x.0 >>= with_place sets x) >>= at_set owner)
    go None o = refl
    go (Some x) o = owned x (use_set k sets x.0) (o x refl)

-- ---- by the word
-- no word comes
pub no_word : (players k : ℕ) (sets : List PartialSet) (tokens : List Token) → word_at tokens ≡ None → choice_part_at players k sets tokens ≡ None
unfolding choice_part_at choice_at
no_word players k sets tokens e = rw e refl

-- no name comes
pub no_name : (players k : ℕ) (sets : List PartialSet) (tokens : List Token) (word : List ℕ × List Token) → word_at tokens ≡ Some word → text_at word.1 ≡ None → choice_part_at players k sets tokens ≡ None
unfolding choice_part_at choice_at
no_name players k sets tokens word e f = rw (e, f) refl

-- after the word and the name
following : (players k : ℕ) (sets : List PartialSet) (tokens : List Token) (word name : List ℕ × List Token) → word_at tokens ≡ Some word → text_at word.1 ≡ Some name
    → choice_part_at players k sets tokens ≡ (choice_after players word.0 name.1 >>= λ c. use_some_set k sets c.0 >>= as_choice sets c.0 c.1)
unfolding choice_part_at choice_at
following players k sets tokens word name e f = rw (e, f) refl

-- chance
pub by_chance : (players k : ℕ) (sets : List PartialSet) (tokens : List Token) (word name : List ℕ × List Token) → word_at tokens ≡ Some word → text_at word.1 ≡ Some name → bytes_eq word.0 (codes "c") ≡ true
    → choice_part_at players k sets tokens ≡ set_choice_at k sets None name.1
unfolding chance_use_at
by_chance players k sets tokens word name e f c = following players k sets tokens word name e f ∙ rw c (set_choice k sets None name.1)

-- a player's number, and then the set
pub by_player : (players k : ℕ) (sets : List PartialSet) (tokens : List Token) (word name : List ℕ × List Token) → word_at tokens ≡ Some word → text_at word.1 ≡ Some name → bytes_eq word.0 (codes "c") ≡ false → bytes_eq word.0 (codes "p") ≡ true
    → choice_part_at players k sets tokens ≡ own_choice_at players k sets name.1
unfolding own_use_at
by_player players k sets tokens word name e f c p = following players k sets tokens word name e f ∙ rw (c, p) (go (player_at players name.1))
  where
    go : (P : Option (ℕ × List Token))
        → ((P >>= λ player. set_use_at (Some player.0) player.1 >>= as_use) >>= λ c. use_some_set k sets c.0 >>= as_choice sets c.0 c.1)
        ≡ (P >>= λ player. set_choice_at k sets (Some player.0) player.1)
    go None = refl
    go (Some player) = set_choice k sets (Some player.0) player.1

-- an end
pub at_end : (players k : ℕ) (sets : List PartialSet) (tokens : List Token) (word name : List ℕ × List Token) → word_at tokens ≡ Some word → text_at word.1 ≡ Some name → bytes_eq word.0 (codes "c") ≡ false → bytes_eq word.0 (codes "p") ≡ false → bytes_eq word.0 (codes "t") ≡ true
    → choice_part_at players k sets tokens ≡ Some ((sets, (End, None)), name.1)
at_end players k sets tokens word name e f c p t = following players k sets tokens word name e f ∙ rw (c, p, t) refl

-- another word
pub no_node : (players k : ℕ) (sets : List PartialSet) (tokens : List Token) (word name : List ℕ × List Token) → word_at tokens ≡ Some word → text_at word.1 ≡ Some name → bytes_eq word.0 (codes "c") ≡ false → bytes_eq word.0 (codes "p") ≡ false → bytes_eq word.0 (codes "t") ≡ false
    → choice_part_at players k sets tokens ≡ None
no_node players k sets tokens word name e f c p t = following players k sets tokens word name e f ∙ rw (c, p, t) refl
