-- What a part leaves, and where it stops, is an end of its tokens.
use Rattle.std.proofs.Common.{◌≡◌, ℕ, zero, suc, ◌+◌, ◌≤◌, ◌-◌, ◌&&◌, if◌then◌else◌, nat_eq, nat_le, slice_get, List, [], ◌∷◌, ◌++◌, length, length-append, Bool, true, false, codes, Option, Some, None, inl, inr, refl, sym, ap, ◌∙◌, subst, append_assoc, arith}
use Rattle.std.specs.Prelude.{Ok, Err}
use Rattle.std.proofs.lemmas.Bool.{cases_Bool}
use Rattle.std.specs.Str.{bytes_eq}
use Rattle.game_core.specs.declared.tree.Kind.TheVariants.{End}
use Rattle.game_core.specs.declared.token.Token.{Token}
use Rattle.game_core.specs.declared.token.Token.TheVariants.{Text, Word}
use Rattle.file_parts.specs.Reading.{word_at, text_at, whole_at, optional_text_at, opens, count_at}
use Rattle.file_parts.specs.Parsing.{Parsed, ◌>>=◌, wanted}
use Rattle.file_parts.proofs.ReaderLemmas.{chain, IsReader, bind_ok, bind_err, ok_same, err_same, ok_err}
use Rattle.file_parts.proofs.TokenReaderLemmas.{text_reader, count_reader}
use Rattle.written_trees.specs.Written.{SetUse, OutcomeUse}
use Rattle.written_trees.specs.Building.{PartialTree, PartialSet, PartialOutcome, Branching, set_place, outcome_place, UsedSet}
use Rattle.tree_grammar.specs.TreeParsing.{is_whole, parse_first_list, parse_repeated_list, parse_later_list, bare_use, parse_use, parse_set, parse_player, parse_set_choice, parse_own_choice, parse_after, parse_choice, parse_first_payoffs, parse_repeated_payoffs, parse_later_payoffs, bare_outcome_use, parse_outcome_use, parse_named, parse_outcome, parse_next}
use Rattle.tree_grammar.specs.declared.kinds.EfgKind.{EfgKind}
use Rattle.tree_grammar.specs.declared.kinds.EfgKind.TheVariants.{Node, UnknownPlayer}
use Rattle.tree_faults.proofs.PartReaderLemmas.{own_list_reader, repeated_list_reader, first_payoffs_reader, repeated_payoffs_reader}
use Rattle.tree_faults.proofs.ChanceReaderLemmas.{chance_list_reader}
use Rattle.tree_faults.proofs.NodeReaderLemmas.{first_list_reader}
use Rattle.tree_faults.proofs.MarkedReaderLemmas.{label_reader}
use Rattle.tree_faults.proofs.LocatedReadingLemmas.{located_at, located_nodes, located_ok, located_err}

-- these tokens end those
abbrev pub Ends : List Token → List Token → Type 0
Ends rest tokens = (front : List Token) × (tokens ≡ front ++ rest)

ends_through : (a b d : List Token) → Ends a b → Ends b d → Ends a d
ends_through a b d e f = (f.0 ++ e.0, f.1 ∙ ap (λ (r : List Token). f.0 ++ r) e.1 ∙ sym (append_assoc f.0 e.0 a))

pub ends_shorter : (rest tokens : List Token) → Ends rest tokens → length rest ≤ length tokens
ends_shorter rest tokens e = let n : length tokens ≡ length e.0 + length rest = ap length e.1 ∙ length-append e.0 rest in omega arith

-- what is left, and where it stops
pub record Within {X : Type 0} (p : List Token → Parsed EfgKind X) : Type 0 where
  pub ok : (tokens : List Token) (x : X × List Token) → p tokens ≡ Ok x → Ends x.1 tokens
  pub err : (tokens : List Token) (f : EfgKind × List Token) → p tokens ≡ Err f → Ends f.1 tokens

pub reader_within : {X : Type 0} (p : List Token → Parsed EfgKind X) → IsReader p → Within p
reader_within p P = record {
  ok = λ tokens x e. let r = (P.at tokens).reads x.0 x.1 e in (r.0, r.1);
  err = λ tokens f e. let s = (P.at tokens).sticks f.0 f.1 e in (s.before, s.is);
}

pub bind_within : {X Y : Type 0} (p : List Token → Parsed EfgKind X) (q : X → List Token → Parsed EfgKind Y) → Within p → ((x : X) → Within (q x)) → Within (λ tokens. chain (p tokens) (λ z. q z.0 z.1))
bind_within {X} {Y} p q P Q = record {
  ok = λ tokens y e. let a = bind_ok (p tokens) (λ z. q z.0 z.1) y e in ends_through y.1 a.0.1 tokens ((Q a.0.0).ok a.0.1 y a.2) (P.ok tokens a.0 a.1);
  err = λ tokens f e. elim (bind_err (p tokens) (λ z. q z.0 z.1) f e) [
    | inl g ↦ P.err tokens f g
    | inr a ↦ ends_through f.1 a.0.1 tokens ((Q a.0.0).err a.0.1 f a.2) (P.ok tokens a.0 a.1)
  ];
}

pub pure_within : {X : Type 0} (x : X) → Within (λ tokens. Ok (x, tokens))
pure_within {X} x = record {
  ok = λ tokens y e. ([], ap (λ (z : X × List Token). z.1) (ok_same (x, tokens) y e));
  err = λ tokens f e. absurd (ok_err (x, tokens) f e);
}

-- after a text that may come
text_ends : (tokens : List Token) → Ends (optional_text_at tokens).1 tokens
text_ends (Text text ∷ rest) = (Text text ∷ [], refl)
text_ends [] = ([], refl)
text_ends (t ∷ rest) = ([], refl)

pub named_within : {X : Type 0} (f : Option (List ℕ) → List Token → Parsed EfgKind X) → ((name : Option (List ℕ)) → Within (f name)) → Within (λ tokens. f (optional_text_at tokens).0 (optional_text_at tokens).1)
named_within f F = record {
  ok = λ tokens x e. ends_through x.1 (optional_text_at tokens).1 tokens ((F (optional_text_at tokens).0).ok (optional_text_at tokens).1 x e) (text_ends tokens);
  err = λ tokens g e. ends_through g.1 (optional_text_at tokens).1 tokens ((F (optional_text_at tokens).0).err (optional_text_at tokens).1 g e) (text_ends tokens);
}

-- a list that may come
optional_within : (p : List Token → Parsed EfgKind (Unit {0})) → Within p → Within (λ tokens. if opens tokens then p tokens else Ok (tt, tokens))
optional_within p P = record {
  ok = λ tokens x e. elim (cases_Bool (opens tokens)) [
    | inl o ↦ let f : p tokens ≡ Ok x = rw o at e in P.ok tokens x f
    | inr o ↦ let f : ◌≡◌ {A = Parsed EfgKind (Unit {0})} (Ok (tt, tokens)) (Ok x) = rw o at e in ([], ap (λ (z : Unit {0} × List Token). z.1) (ok_same (tt, tokens) x f))
  ];
  err = λ tokens g e. elim (cases_Bool (opens tokens)) [
    | inl o ↦ let f : p tokens ≡ Err g = rw o at e in P.err tokens g f
    | inr o ↦ let f : ◌≡◌ {A = Parsed EfgKind (Unit {0})} (Ok (tt, tokens)) (Err g) = rw o at e in absurd (ok_err (tt, tokens) g f)
  ];
}

-- ---- sets
pub use_within : (k : ℕ) (sets : List PartialSet) (used : SetUse) (found : Option PartialSet) → Within (parse_use k sets used found)
use_within k sets used None = bind_within (parse_first_list used.owner used.label) _ (reader_within (parse_first_list used.owner used.label) (first_list_reader used.owner used.label chance_list_reader (λ _ _. own_list_reader))) (λ actions. pure_within _)
use_within k sets used (Some set) = bind_within (parse_later_list set.owner set.actions) _ (optional_within (parse_repeated_list set.owner set.actions) (reader_within (parse_repeated_list set.owner set.actions) (repeated_list_reader set.owner set.actions))) (λ _. pure_within _)

-- what follows a set's number
pub after_number_within : (k : ℕ) (sets : List PartialSet) (owner : Option ℕ) (label : ℕ) → Within {X = List PartialSet × ℕ} (λ tokens. parse_use k sets (bare_use owner label (optional_text_at tokens).0) (slice_get sets (set_place sets (owner, label))) (optional_text_at tokens).1 >>= λ more. Ok ((more.0, set_place sets (owner, label)), more.1))
after_number_within k sets owner label =
    bind_within (λ tokens. parse_use k sets (bare_use owner label (optional_text_at tokens).0) (slice_get sets (set_place sets (owner, label))) (optional_text_at tokens).1) (λ more tokens. Ok ((more, set_place sets (owner, label)), tokens))
    (named_within (λ name. parse_use k sets (bare_use owner label name) (slice_get sets (set_place sets (owner, label)))) (λ name. use_within k sets (bare_use owner label name) (slice_get sets (set_place sets (owner, label))))) (λ more. pure_within _)

set_within : (k : ℕ) (sets : List PartialSet) (owner : Option ℕ) → Within (parse_set k sets owner)
unfolding parse_set
set_within k sets owner =
    bind_within (λ tokens. wanted Node tokens (count_at tokens)) (λ label tokens. parse_use k sets (bare_use owner label (optional_text_at tokens).0) (slice_get sets (set_place sets (owner, label))) (optional_text_at tokens).1 >>= λ more. Ok ((more.0, set_place sets (owner, label)), more.1))
    (reader_within _ (count_reader Node)) (after_number_within k sets owner)

-- ---- outcomes
pub outcome_use_within : (players : ℕ) (outcomes : List PartialOutcome) (used : OutcomeUse) (found : Option PartialOutcome) → Within (parse_outcome_use players outcomes used found)
outcome_use_within players outcomes used None = bind_within (parse_first_payoffs players) _ (reader_within (parse_first_payoffs players) (first_payoffs_reader players)) (λ payoffs. pure_within _)
outcome_use_within players outcomes used (Some outcome) = bind_within (parse_later_payoffs outcome.payoffs) _ (optional_within (parse_repeated_payoffs outcome.payoffs) (reader_within (parse_repeated_payoffs outcome.payoffs) (repeated_payoffs_reader outcome.payoffs))) (λ _. pure_within _)

named_outcome_within : (players label : ℕ) (outcomes : List PartialOutcome) → Within (parse_named players label outcomes)
unfolding parse_named
named_outcome_within players label outcomes = bind_within (λ tokens. parse_outcome_use players outcomes (bare_outcome_use label (optional_text_at tokens).0) (slice_get outcomes (outcome_place outcomes label)) (optional_text_at tokens).1) (λ more tokens. Ok ((more, Some (outcome_place outcomes label)), tokens))
    (named_within (λ name. parse_outcome_use players outcomes (bare_outcome_use label name) (slice_get outcomes (outcome_place outcomes label))) (λ name. outcome_use_within players outcomes (bare_outcome_use label name) (slice_get outcomes (outcome_place outcomes label)))) (λ more. pure_within _)

pub after_label_within : (players : ℕ) (outcomes : List PartialOutcome) (label : ℕ) → Within (λ tokens. if nat_eq label 0 then Ok ((outcomes, None), tokens) else parse_named players label outcomes tokens)
after_label_within players outcomes label = by (nat_eq label 0)
  where
    by : (zero : Bool) → Within (λ tokens. if zero then Ok ((outcomes, None), tokens) else parse_named players label outcomes tokens)
    by true = pure_within (outcomes, None)
    by false = named_outcome_within players label outcomes

pub outcome_within : (players : ℕ) (outcomes : List PartialOutcome) → Within (parse_outcome players outcomes)
unfolding parse_outcome
outcome_within players outcomes = bind_within (λ tokens. wanted Node tokens (whole_at tokens)) (λ label tokens. if nat_eq label 0 then Ok ((outcomes, None), tokens) else parse_named players label outcomes tokens) (reader_within _ label_reader) (after_label_within players outcomes)

-- ---- nodes
pub set_choice_within : (k : ℕ) (sets : List PartialSet) (owner : Option ℕ) → Within (parse_set_choice k sets owner)
unfolding parse_set_choice
set_choice_within k sets owner = bind_within (parse_set k sets owner) _ (set_within k sets owner) (λ used. pure_within _)

-- a player's number is one token, or what is named
pub player_within : (players : ℕ) → Within (parse_player players)
unfolding parse_player
player_within players = record {
  ok = λ tokens x e. let a = bind_ok (wanted Node tokens (whole_at tokens)) _ x e in by_ok (nat_le 1 a.0.0 && nat_le a.0.0 players) tokens (a.0.0 - 1, a.0.1) x ((reader_within (λ tokens. wanted Node tokens (whole_at tokens)) label_reader).ok tokens a.0 a.1) a.2;
  err = λ tokens f e. elim (bind_err (wanted Node tokens (whole_at tokens)) _ f e) [
    | inl g ↦ (reader_within (λ tokens. wanted Node tokens (whole_at tokens)) label_reader).err tokens f g
    | inr a ↦ by_err (nat_le 1 a.0.0 && nat_le a.0.0 players) tokens (a.0.0 - 1, a.0.1) f a.2
  ];
}
  where
    by_ok : (is : Bool) (tokens : List Token) (y x : ℕ × List Token) → Ends y.1 tokens → ◌≡◌ {A = Parsed EfgKind ℕ} (if is then Ok y else Err (UnknownPlayer, tokens)) (Ok x) → Ends x.1 tokens
    by_ok true tokens y x h e = subst (λ (z : ℕ × List Token). Ends z.1 tokens) (ok_same y x e) h
    by_ok false tokens y x h e = absurd (ok_err x (UnknownPlayer, tokens) (sym e))

    by_err : (is : Bool) (tokens : List Token) (y : ℕ × List Token) (f : EfgKind × List Token) → ◌≡◌ {A = Parsed EfgKind ℕ} (if is then Ok y else Err (UnknownPlayer, tokens)) (Err f) → Ends f.1 tokens
    by_err true tokens y f e = absurd (ok_err y f e)
    by_err false tokens y f e = ([], ap (λ (z : EfgKind × List Token). z.1) (err_same (UnknownPlayer, tokens) f e))

own_choice_within : (players k : ℕ) (sets : List PartialSet) → Within (parse_own_choice players k sets)
unfolding parse_own_choice
own_choice_within players k sets = bind_within (parse_player players) (λ player tokens. parse_set_choice k sets (Some player) tokens) (player_within players) (λ player. set_choice_within k sets (Some player))

-- what follows the word and the name; where the word is another, its own place is named
pub record WithinFrom {X : Type 0} (start : List Token) (p : List Token → Parsed EfgKind X) : Type 0 where
  pub ok : (tokens : List Token) (x : X × List Token) → p tokens ≡ Ok x → Ends x.1 tokens
  pub err : (tokens : List Token) (f : EfgKind × List Token) → Ends tokens start → p tokens ≡ Err f → Ends f.1 start

after_within : (players k : ℕ) (sets : List PartialSet) (word : List ℕ) (start : List Token) → WithinFrom start (parse_after players k sets word start)
after_within players k sets word start = by (bytes_eq word (codes "c")) (bytes_eq word (codes "p")) (bytes_eq word (codes "t"))
  where
    from : {X : Type 0} (p : List Token → Parsed EfgKind X) → Within p → WithinFrom start p
    from p P = record { ok = P.ok; err = λ tokens f h e. ends_through f.1 tokens start (P.err tokens f e) h }

    by : (c p t : Bool) → WithinFrom start (λ tokens. if c then parse_set_choice k sets None tokens else if p then parse_own_choice players k sets tokens else if t then Ok ((sets, (End, None)), tokens) else Err (Node, start))
    by true p t = from (parse_set_choice k sets None) (set_choice_within k sets None)
    by false true t = from (parse_own_choice players k sets) (own_choice_within players k sets)
    by false false true = from (λ tokens. Ok ((sets, (End, None)), tokens)) (pure_within (sets, (End, None)))
    by false false false = record {
      ok = λ tokens x e. absurd (ok_err x (Node, start) (sym e));
      err = λ tokens f h e. ([], ap (λ (z : EfgKind × List Token). z.1) (err_same {A = UsedSet × List Token} (Node, start) f e));
    }

-- a word
word_ends : (tokens : List Token) (x : List ℕ × List Token) → wanted Node tokens (word_at tokens) ≡ Ok x → Ends x.1 tokens
word_ends (Word word ∷ rest) x e = (Word word ∷ [], ap (λ (z : List ℕ × List Token). Word word ∷ z.1) (ok_same (word, rest) x e))
word_ends tokens x e = absurd (ok_err x (Node, tokens) (sym e))

word_named : (tokens : List Token) (f : EfgKind × List Token) → wanted Node tokens (word_at tokens) ≡ Err f → Ends f.1 tokens
word_named (Word word ∷ rest) f e = absurd (ok_err (word, rest) f e)
word_named tokens f e = ([], ap (λ (z : EfgKind × List Token). z.1) (err_same {A = List ℕ × List Token} (Node, tokens) f e))

pub choice_within : (players k : ℕ) (sets : List PartialSet) → Within (parse_choice players k sets)
unfolding parse_choice
choice_within players k sets = record {
  ok = λ tokens x e.
      let w = bind_ok (wanted Node tokens (word_at tokens)) _ x e in
      let n = bind_ok (wanted Node w.0.1 (text_at w.0.1)) _ x w.2 in
      let one = (reader_within (λ tokens. wanted Node tokens (text_at tokens)) (text_reader Node)).ok w.0.1 n.0 n.1 in
      ends_through x.1 n.0.1 tokens ((after_within players k sets w.0.0 tokens).ok n.0.1 x n.2) (ends_through n.0.1 w.0.1 tokens one (word_ends tokens w.0 w.1));
  err = λ tokens f e. elim (bind_err (wanted Node tokens (word_at tokens)) _ f e) [
    | inl g ↦ word_named tokens f g
    | inr w ↦ elim (bind_err (wanted Node w.0.1 (text_at w.0.1)) _ f w.2) [
      | inl g ↦ ends_through f.1 w.0.1 tokens ((reader_within (λ tokens. wanted Node tokens (text_at tokens)) (text_reader Node)).err w.0.1 f g) (word_ends tokens w.0 w.1)
      | inr n ↦
          let one = (reader_within (λ tokens. wanted Node tokens (text_at tokens)) (text_reader Node)).ok w.0.1 n.0 n.1 in
          (after_within players k sets w.0.0 tokens).err n.0.1 f (ends_through n.0.1 w.0.1 tokens one (word_ends tokens w.0 w.1)) n.2
    ]
  ];
}

pub next_within : (players : ℕ) (partial : PartialTree) (b : Branching) (rest : List Branching) → Within (parse_next players partial b rest)
unfolding parse_next
next_within players partial b rest = bind_within (parse_choice players (length partial.nodes) partial.sets) _ (choice_within players (length partial.nodes) partial.sets) (λ choice. bind_within (parse_outcome players partial.outcomes) _ (outcome_within players partial.outcomes) (λ outcome. pure_within _))

at_within : (players : ℕ) (partial : PartialTree) (branchings : List Branching) → Within (located_at players partial branchings)
at_within players partial branchings = record {
  ok = λ tokens x e. let s = located_ok players partial branchings tokens x e in (next_within players partial s.0.first s.0.others).ok tokens x s.1;
  err = λ tokens f e. elim (located_err players partial branchings tokens f e) [
    | inl n ↦ ([], ap (λ (z : EfgKind × List Token). z.1) n)
    | inr s ↦ (next_within players partial s.0.first s.0.others).err tokens f s.1
  ];
}

pub nodes_within : (most players : ℕ) (partial : PartialTree) → Within (located_nodes most players partial)
nodes_within zero players partial = record { ok = λ tokens x e. absurd (ok_err x (Node, tokens) (sym e)); err = λ tokens f e. ([], ap (λ (z : EfgKind × List Token). z.1) (err_same {A = PartialTree × List Token} (Node, tokens) f e)) }
nodes_within (suc most) players partial = by (is_whole partial) (nodes_within most players)
  where
    by : (whole : Bool) → ((next : PartialTree) → Within (located_nodes most players next)) → Within (λ tokens. if whole then Ok (partial, tokens) else (located_at players partial partial.branchings tokens >>= λ x. located_nodes most players x.0 x.1))
    by true more = pure_within partial
    by false more = bind_within (located_at players partial partial.branchings) (λ x tokens. located_nodes most players x tokens) (at_within players partial partial.branchings) more
