-- What is read as a node is one, and nodes are read.
use Rattle.std.proofs.Common.{◌≡◌, ℕ, suc, length, ◌-◌, ◌<◌, ◌≤◌, true, ◌&&◌, ◌||◌, cond, List, [], ◌∷◌, ◌++◌, Option, Some, None, inl, inr, nat_le, refl, sym, ap, ◌∙◌, subst, append_assoc, arith}
use Rattle.std.proofs.lemmas.Bool.Decides.{Decides-eqb, nat_tests}
use Rattle.std.proofs.lemmas.Option.{cond_some, same_Some}
use Rattle.std.proofs.lemmas.Slice.Eq.{slice_eq-Decides}
use Rattle.std.specs.Prelude.{codes, IfSome}
use Rattle.std.specs.List.{AllByRecursion}
use Rattle.rational.specs.Rational.{ℚ}
use Rattle.game_core.specs.declared.tree.Action.{Action}
use Rattle.file_parts.specs.Parts.{whole_number}
use Rattle.file_parts.specs.Reading.{text_at, word_at, whole_at}
use Rattle.file_parts.proofs.TokenLaws.{text_is, word_is, whole_is, whole_again}
use Rattle.game_core.specs.Tree.{IsBelow}
use Rattle.written_trees.specs.Written.{SetUse, OutcomeUse, WrittenNode}
use Rattle.written_trees.specs.Described.{IsActionList}
use Rattle.written_trees.specs.Laws.{IsSetUse, IsOutcomeUse, IsWrittenNode}
use Rattle.tree_grammar.specs.TreeFile.{AreActions, IsSetPart, ArePayoffs, IsOutcomePart, IsInnerPart, IsChoicePart, IsNode, IsNodeWord}
use Rattle.tree_grammar.specs.TreePieces.{is_node_word, begins_node}
use Rattle.tree_grammar.proofs.PartValueLemmas.{set_use_at, outcome_use_at, player_at, chance_use_at, own_use_at, choice_after, choice_at, node_at}
use Rattle.tree_grammar.proofs.SetLaws.{IsBare, set_is, set_again}
use Rattle.tree_grammar.proofs.OutcomeLaws.{outcome_is, outcome_again, outcome_bare}
use Rattle.std.proofs.lemmas.Bool.{or_cases}
use Rattle.std.specs.Str.{bytes_eq}
use Rattle.lists.proofs.OptionLemmas.{bind_some, either}
use Rattle.game_core.specs.declared.token.Token.{Token}
use Rattle.game_core.specs.declared.token.Token.TheVariants.{Text, Word}

-- and of the second
pub of_back : {X : Type 0} (P : X → Type 0) (xs ys : List X) → AllByRecursion P (xs ++ ys) → AllByRecursion P ys
of_back P [] ys h = h
of_back P (x ∷ xs) ys h = of_back P xs ys h.1

-- ---- a player
-- a number from 1 to a most, and its predecessor
in_turn : (n most : ℕ) → (nat_le 1 n && nat_le n most) ≡ true → (n - 1 < most) × (n ≡ suc (n - 1))
in_turn n most e =
    let some : 1 ≤ n = grind (arith, nat_tests) in
    let few : n ≤ most = grind (arith, nat_tests) in
    (omega arith, omega arith)

-- and the other way
turn_again : (i most : ℕ) → i < most → (nat_le 1 (suc i) && nat_le (suc i) most) ≡ true
turn_again i most h = grind (arith, nat_tests)

-- what is read as a player's number is one
pub player_is : (players : ℕ) (tokens : List Token) (x : ℕ × List Token) → player_at players tokens ≡ Some x → (x.0 < players) × (tokens ≡ whole_number (suc x.0) ∷ x.1)
unfolding player_at
player_is players tokens x e =
    let a = bind_some (whole_at tokens) _ x e in
    let p = cond_some (nat_le 1 a.0.0 && nat_le a.0.0 players) (a.0.0 - 1, a.0.1) x a.2 in
    let turn = in_turn a.0.0 players p.0 in
    let P : ℕ × List Token → Type 0 = λ y. (y.0 < players) × (tokens ≡ whole_number (suc y.0) ∷ y.1) in
    subst P p.1 (turn.0, whole_is tokens a.0 a.1 ∙ ap (λ (n : ℕ). whole_number n ∷ a.0.1) turn.1)

-- a player's number is read
pub player_again : (players i : ℕ) (rest : List Token) → i < players → player_at players (whole_number (suc i) ∷ rest) ≡ Some (i, rest)
unfolding player_at
player_again players i rest h =
    let same : suc i - 1 ≡ i = omega arith in
    rw (whole_again (suc i) rest, turn_again i players h, same) refl

-- ---- the word
-- a word that passes a test is the one that is expected
pub word_passes : (word expected : List ℕ) → bytes_eq word expected ≡ true → word ≡ expected
word_passes word expected e = (slice_eq-Decides Decides-eqb word expected _ refl).0 e

-- ---- a choice
-- a choice comes first, after a word and a name
abbrev pub BeginsWithChoice : ℕ → List Token → Option SetUse × List Token → Type 0
BeginsWithChoice players tokens x = (part : List Token) × IsChoicePart players part x.0 × (tokens ≡ part ++ x.1)

-- a choice of this owner
choice_of : (players : ℕ) (owner : Option ℕ) (part : List Token) (used : SetUse) → used.owner ≡ owner → IsInnerPart players owner part used → IsChoicePart players part (Some used)
choice_of players owner part used e h = subst (λ (o : Option ℕ). IsInnerPart players o part used) (sym e) h

-- what is read after `c` is a choice of chance
chance_is : (players : ℕ) (name : List ℕ) (tokens : List Token) (x : Option SetUse × List Token) → chance_use_at tokens ≡ Some x → BeginsWithChoice players (Word (codes "c") ∷ Text name ∷ tokens) x
unfolding chance_use_at
chance_is players name tokens x e =
    let a = bind_some (set_use_at None tokens) _ x e in
    let s = set_is None tokens a.0 a.1 in
    let front : List Token = Word (codes "c") ∷ Text name ∷ [] in
    let is = choice_of players None (front ++ s.part) a.0.0 s.is_owner (name, s.part, refl, s.is_set) in
    subst (BeginsWithChoice players (front ++ tokens)) (same_Some _ _ a.2) (front ++ s.part, is, ap (λ (r : List Token). front ++ r) s.is)

-- what is read after `p` is a choice of a player
own_is : (players : ℕ) (name : List ℕ) (tokens : List Token) (x : Option SetUse × List Token) → own_use_at players tokens ≡ Some x → BeginsWithChoice players (Word (codes "p") ∷ Text name ∷ tokens) x
unfolding own_use_at
own_is players name tokens x e =
    let a = bind_some (player_at players tokens) _ x e in
    let b = bind_some (set_use_at (Some a.0.0) a.0.1) _ x a.2 in
    let p = player_is players tokens a.0 a.1 in
    let s = set_is (Some a.0.0) a.0.1 b.0 b.1 in
    let front : List Token = Word (codes "p") ∷ Text name ∷ whole_number (suc a.0.0) ∷ [] in
    let is = choice_of players (Some a.0.0) (front ++ s.part) b.0.0 s.is_owner (p.0, name, s.part, refl, s.is_set) in
    let all : Word (codes "p") ∷ Text name ∷ tokens ≡ (front ++ s.part) ++ b.0.1 = ap (λ (r : List Token). Word (codes "p") ∷ Text name ∷ r) (p.1 ∙ ap (λ (r : List Token). whole_number (suc a.0.0) ∷ r) s.is) in
    subst (BeginsWithChoice players (Word (codes "p") ∷ Text name ∷ tokens)) (same_Some _ _ b.2) (front ++ s.part, is, all)

-- the word that is expected
with_word : (players : ℕ) (word expected name : List ℕ) (tokens : List Token) (x : Option SetUse × List Token) → bytes_eq word expected ≡ true → BeginsWithChoice players (Word expected ∷ Text name ∷ tokens) x → BeginsWithChoice players (Word word ∷ Text name ∷ tokens) x
with_word players word expected name tokens x e h = rw (word_passes word expected e) h

-- what is read after a word and a name is a choice
choice_after_is : (players : ℕ) (word name : List ℕ) (tokens : List Token) (x : Option SetUse × List Token) → choice_after players word tokens ≡ Some x → BeginsWithChoice players (Word word ∷ Text name ∷ tokens) x
choice_after_is players word name tokens x e =
    let at_end : Option (Option SetUse × List Token) = cond (bytes_eq word (codes "t")) (Some (None, tokens)) None in
    let not_chance : Option (Option SetUse × List Token) = cond (bytes_eq word (codes "p")) (own_use_at players tokens) at_end in
    elim (either (bytes_eq word (codes "c")) (chance_use_at tokens) not_chance (Some x) e) [
      | inl c ↦ with_word players word (codes "c") name tokens x c.0 (chance_is players name tokens x c.1)
      | inr n ↦ elim (either (bytes_eq word (codes "p")) (own_use_at players tokens) at_end (Some x) n.1) [
        | inl p ↦ with_word players word (codes "p") name tokens x p.0 (own_is players name tokens x p.1)
        | inr m ↦
            let t = cond_some (bytes_eq word (codes "t")) (None, tokens) x m.1 in
            with_word players word (codes "t") name tokens x t.0 (subst (BeginsWithChoice players (Word (codes "t") ∷ Text name ∷ tokens)) t.1 (Word (codes "t") ∷ Text name ∷ [], (name, refl), refl))
      ]
    ]

-- what is read as a choice is one
pub choice_is : (players : ℕ) (tokens : List Token) (x : Option SetUse × List Token) → choice_at players tokens ≡ Some x → BeginsWithChoice players tokens x
unfolding choice_at
choice_is players tokens x e =
    let a = bind_some (word_at tokens) _ x e in
    let b = bind_some (text_at a.0.1) _ x a.2 in
    let all : tokens ≡ Word a.0.0 ∷ Text b.0.0 ∷ b.0.1 = word_is tokens a.0 a.1 ∙ ap (λ (r : List Token). Word a.0.0 ∷ r) (text_is a.0.1 b.0 b.1) in
    rw all (choice_after_is players a.0.0 b.0.0 b.0.1 x b.2)

-- a choice of this owner is read
inner_again : (players : ℕ) (owner : Option ℕ) (part rest : List Token) (used : SetUse) → used.owner ≡ owner → IsInnerPart players owner part used → IsBare rest → choice_at players (part ++ rest) ≡ Some (Some used, rest)
unfolding choice_at chance_use_at own_use_at
inner_again players None part rest used e h bare =
    let set = set_again None h.1 rest used e h.3 bare in
    rw (h.2, set) refl
inner_again players (Some i) part rest used e h bare =
    let set = set_again (Some i) h.2 rest used e h.4 bare in
    rw (h.3, player_again players i (h.2 ++ rest) h.0, set) refl

-- a choice is read
choice_again : (players : ℕ) (part rest : List Token) (used : Option SetUse) → IsChoicePart players part used → IsBare rest → choice_at players (part ++ rest) ≡ Some (used, rest)
unfolding choice_at
choice_again players part rest None h bare = rw h.1 refl
choice_again players part rest (Some used) h bare = inner_again players used.owner part rest used refl h bare

-- ---- a node
-- actions that may come are a list where they come
actions_are_list : (owner : Option ℕ) (list : List Token) (actions : Option (List Action)) → AreActions owner list actions → IfSome actions (IsActionList owner)
actions_are_list owner list None h = tt
actions_are_list owner list (Some actions) h = h.0

-- an owner is one of the players
owner_within : (players : ℕ) (owner : Option ℕ) (part : List Token) (used : SetUse) → IsInnerPart players owner part used → IsBelow players owner
owner_within players None part used h = tt
owner_within players (Some i) part used h = h.0

-- the set of a choice
inner_set : (players : ℕ) (owner : Option ℕ) (part : List Token) (used : SetUse) → IsInnerPart players owner part used → (set : List Token) × IsSetPart set used
inner_set players None part used h = (h.1, h.3)
inner_set players (Some i) part used h = (h.2, h.4)

-- a choice uses a set of a game with so many players
set_written : (players : ℕ) (part : List Token) (used : Option SetUse) → IsChoicePart players part used → IfSome used (IsSetUse players)
set_written players part None h = tt
set_written players part (Some used) h =
    let s = (inner_set players used.owner part used h).1 in
    record { owner_within = owner_within players used.owner part used h; is_list = actions_are_list used.owner s.1 used.actions s.3 }

-- payoffs that may come are one per player
payoffs_written : (players : ℕ) (list : List Token) (payoffs : Option (List ℚ)) → ArePayoffs players list payoffs → IfSome payoffs (λ values. length values ≡ players)
payoffs_written players list None h = tt
payoffs_written players list (Some payoffs) h = h.3

-- an outcome is one of a game with so many players
outcome_written : (players : ℕ) (part : List Token) (used : Option OutcomeUse) → IsOutcomePart players part used → IfSome used (IsOutcomeUse players)
outcome_written players part None h = tt
outcome_written players part (Some used) h = payoffs_written players h.1 used.payoffs h.3

-- a node of a file is a node of a game with so many players
pub node_written : (players : ℕ) (part : List Token) (node : WrittenNode) → IsNode players part node → IsWrittenNode players node
node_written players part node h = record { set_is = set_written players h.0 node.set h.3; outcome_is = outcome_written players h.1 node.outcome h.4 }

-- a node comes first
abbrev pub BeginsWithNode : ℕ → List Token → WrittenNode × List Token → Type 0
BeginsWithNode players tokens x = (part : List Token) × IsNode players part x.0 × (tokens ≡ part ++ x.1)

-- what is read as a node is one
pub node_is : (players : ℕ) (tokens : List Token) (x : WrittenNode × List Token) → node_at players tokens ≡ Some x → BeginsWithNode players tokens x
unfolding node_at
node_is players tokens x e =
    let a = bind_some (choice_at players tokens) _ x e in
    let b = bind_some (outcome_use_at players a.0.1) _ x a.2 in
    let c = choice_is players tokens a.0 a.1 in
    let o = outcome_is players a.0.1 b.0 b.1 in
    let all : tokens ≡ (c.0 ++ o.0) ++ b.0.1 = c.2 ∙ ap (λ (r : List Token). c.0 ++ r) o.2 ∙ sym (append_assoc c.0 o.0 b.0.1) in
    subst (BeginsWithNode players tokens) (same_Some _ _ b.2) (c.0 ++ o.0, (c.0, o.0, refl, c.1, o.1), all)

-- a node is read
pub node_again : (players : ℕ) (part rest : List Token) (node : WrittenNode) → IsNode players part node → IsBare rest → node_at players (part ++ rest) ≡ Some (node, rest)
unfolding node_at
node_again players part rest node h bare =
    let front = h.0 in
    let back = h.1 in
    let tokens : part ++ rest ≡ front ++ (back ++ rest) = rw h.2 (append_assoc front back rest) in
    let choice = choice_again players front (back ++ rest) node.set h.3 (outcome_bare players back rest node.outcome h.4) in
    let outcome = outcome_again players back rest node.outcome h.4 bare in
    rw (tokens, choice, outcome) refl

-- ---- the word of a node
-- a node's word comes first
pub record BeginsWithWord (part : List Token) : Type 0 where
  pub word : List ℕ
  pub is_word : IsNodeWord word
  pub tail : List Token
  pub is : part ≡ Word word ∷ tail

-- a choice of this owner begins with a node's word
pub inner_begins : (players : ℕ) (owner : Option ℕ) (part : List Token) (used : SetUse) → IsInnerPart players owner part used → BeginsWithWord part
inner_begins players None part used h = record { word = codes "c"; is_word = inl refl; tail = Text h.0 ∷ h.1; is = h.2 }
inner_begins players (Some i) part used h = record { word = codes "p"; is_word = inr (inl refl); tail = Text h.1 ∷ whole_number (suc i) ∷ h.2; is = h.3 }

-- a choice begins with a node's word
pub choice_begins : (players : ℕ) (part : List Token) (used : Option SetUse) → IsChoicePart players part used → BeginsWithWord part
choice_begins players part None h = record { word = codes "t"; is_word = inr (inr refl); tail = Text h.0 ∷ []; is = h.1 }
choice_begins players part (Some used) h = inner_begins players used.owner part used h

-- a node begins with a node's word
pub node_begins : (players : ℕ) (part : List Token) (node : WrittenNode) → IsNode players part node → BeginsWithWord part
node_begins players part node h =
    let c = choice_begins players h.0 node.set h.3 in
    record { word = c.word; is_word = c.is_word; tail = c.tail ++ h.1; is = h.2 ∙ ap (λ (r : List Token). r ++ h.1) c.is }

-- a node's word passes the test
pub node_word_passes : (word : List ℕ) → IsNodeWord word → is_node_word word ≡ true
node_word_passes word (inl c) = rw c refl
node_word_passes word (inr (inl p)) = rw p refl
node_word_passes word (inr (inr t)) = rw t refl

-- a word that passes the test is a node's word
passing_word : (word : List ℕ) → is_node_word word ≡ true → IsNodeWord word
passing_word word e = elim (or_cases (bytes_eq word (codes "c")) (bytes_eq word (codes "p") || bytes_eq word (codes "t")) e) [
  | inl c ↦ inl (word_passes word (codes "c") c)
  | inr n ↦ elim (or_cases (bytes_eq word (codes "p")) (bytes_eq word (codes "t")) n) [
    | inl p ↦ inr (inl (word_passes word (codes "p") p))
    | inr t ↦ inr (inr (word_passes word (codes "t") t))
  ]
]

-- where a node begins, its word comes
pub beginning_is : (tokens : List Token) → begins_node tokens ≡ true → BeginsWithWord tokens
beginning_is (Word word ∷ tokens) e = record { word = word; is_word = passing_word word e; tail = tokens; is = refl }
beginning_is _ e = cc
