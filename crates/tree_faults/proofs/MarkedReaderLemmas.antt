-- Nodes are read token by token, up to a comma where a node may begin. No file has a comma there, so it may come after any nodes.
use Rattle.std.proofs.Common.{◌≡◌, ℕ, ◌-◌, ◌≤◌, List, [], ◌∷◌, ◌&&◌, if◌then◌else◌, nat_eq, nat_le, slice_get, Option, Some, None, ◌⊎◌, inl, inr, refl}
use Rattle.std.specs.Prelude.{Ok, Err}
use Rattle.game_core.specs.declared.token.Token.{Token}
use Rattle.file_parts.specs.Parts.{whole_number}
use Rattle.file_parts.specs.Reading.{whole_at, optional_text_at, count_at}
use Rattle.file_parts.specs.Parsing.{Parsed, ◌>>=◌, wanted}
use Rattle.file_parts.proofs.ReaderLemmas.{IsReader, bind_reader, same_reader, token_reader, result_of}
use Rattle.file_parts.proofs.TokenReaderLemmas.{wanted_reader, whole_is_head, count_reader}
use Rattle.file_parts.proofs.TokenLaws.{whole_again, le_passes}
use Rattle.written_trees.specs.Building.{PartialSet, PartialOutcome, set_place, outcome_place}
use Rattle.tree_grammar.specs.TreeParsing.{bare_use, bare_outcome_use, parse_outcome_use, parse_set, parse_named, parse_outcome, parse_player, parse_use, parse_first_list}
use Rattle.tree_faults.proofs.NodeReaderLemmas.{ReadsNoText, ReadsNoBrace, named, named_reader, map_then, use_then, use_reader, use_no_text, outcome_then, outcome_reader, outcome_no_text}
use Rattle.tree_grammar.specs.declared.kinds.EfgKind.{EfgKind}
use Rattle.tree_grammar.specs.declared.kinds.EfgKind.TheVariants.{Node, UnknownPlayer}
use Rattle.std.proofs.lemmas.Bool.{cases_Bool}

-- ---- numbers
pub label_reader : IsReader (λ tokens. wanted Node tokens (whole_at tokens))
label_reader = wanted_reader Node whole_at whole_is_head (whole_number 0) 0 (λ rest. whole_again 0 rest)

-- ---- outcomes
-- what follows an outcome after its number
named_then : {X : Type 0} (players label : ℕ) (outcomes : List PartialOutcome) (g : List PartialOutcome × Option ℕ → List Token → Parsed EfgKind X) (tokens : List Token)
    → (parse_named players label outcomes tokens >>= λ x. g x.0 x.1) ≡ named (λ name. outcome_then players outcomes (bare_outcome_use label name) (slice_get outcomes (outcome_place outcomes label)) (λ more. g (more, Some (outcome_place outcomes label)))) tokens
unfolding parse_named
named_then players label outcomes g tokens =
    map_then (parse_outcome_use players outcomes (bare_outcome_use label (optional_text_at tokens).0) (slice_get outcomes (outcome_place outcomes label)) (optional_text_at tokens).1) (λ more. (more, Some (outcome_place outcomes label))) g

-- a chain of three parts
chain_three : {X Y Z : Type 0} (o : Parsed EfgKind X) (f : X × List Token → Parsed EfgKind Y) (g : Y × List Token → Parsed EfgKind Z) → ((o >>= f) >>= g) ≡ (o >>= λ x. (f x >>= g))
chain_three (Ok x) f g = refl
chain_three (Err fault) f g = refl

-- what follows the number of an outcome
after_label : {X : Type 0} → ℕ → List PartialOutcome → (List PartialOutcome × Option ℕ → List Token → Parsed EfgKind X) → ℕ → List Token → Parsed EfgKind X
after_label players outcomes g label tokens = (if nat_eq label 0 then Ok ((outcomes, None), tokens) else parse_named players label outcomes tokens) >>= λ x. g x.0 x.1

after_reader : {X : Type 0} (players : ℕ) (outcomes : List PartialOutcome) (g : List PartialOutcome × Option ℕ → List Token → Parsed EfgKind X) → ((x : List PartialOutcome × Option ℕ) → IsReader (g x))
    → ((x : List PartialOutcome × Option ℕ) → ReadsNoBrace (g x)) → ((x : List PartialOutcome × Option ℕ) → ReadsNoText (g x)) → (label : ℕ) → IsReader (after_label players outcomes g label)
unfolding after_label
after_reader {X} players outcomes g G N T label = elim (cases_Bool (nat_eq label 0)) [
  | inl is ↦ same_reader (after_label players outcomes g label) (g (outcomes, None)) (λ tokens. rw is refl) (G (outcomes, None))
  | inr is ↦
      let f : Option (List ℕ) → List Token → Parsed EfgKind X = λ name. outcome_then players outcomes (bare_outcome_use label name) (slice_get outcomes (outcome_place outcomes label)) (λ more. g (more, Some (outcome_place outcomes label))) in
      same_reader (after_label players outcomes g label) (named f) (λ tokens. rw is (named_then players label outcomes g tokens))
      (named_reader f (λ name. outcome_reader players outcomes (bare_outcome_use label name) (slice_get outcomes (outcome_place outcomes label)) (λ more. g (more, Some (outcome_place outcomes label))) (λ more. G (more, Some (outcome_place outcomes label))) (λ more. N (more, Some (outcome_place outcomes label))))
      (outcome_no_text players outcomes (bare_outcome_use label None) (slice_get outcomes (outcome_place outcomes label)) (λ more. g (more, Some (outcome_place outcomes label))) (λ more. T (more, Some (outcome_place outcomes label)))))
]

-- what follows an outcome
pub outcome_part_reader : {X : Type 0} (players : ℕ) (outcomes : List PartialOutcome) (g : List PartialOutcome × Option ℕ → List Token → Parsed EfgKind X)
    → ((x : List PartialOutcome × Option ℕ) → IsReader (g x)) → ((x : List PartialOutcome × Option ℕ) → ReadsNoBrace (g x)) → ((x : List PartialOutcome × Option ℕ) → ReadsNoText (g x))
    → IsReader (λ tokens. parse_outcome players outcomes tokens >>= λ x. g x.0 x.1)
unfolding parse_outcome after_label
outcome_part_reader players outcomes g G N T =
    same_reader (λ tokens. parse_outcome players outcomes tokens >>= λ x. g x.0 x.1) (λ tokens. wanted Node tokens (whole_at tokens) >>= λ label. after_label players outcomes g label.0 label.1)
    (λ tokens. chain_three (wanted Node tokens (whole_at tokens)) _ (λ x. g x.0 x.1))
    (bind_reader (λ tokens. wanted Node tokens (whole_at tokens)) (λ label tokens. after_label players outcomes g label tokens) label_reader (λ _ label _. after_reader players outcomes g G N T label))

-- ---- sets
-- what follows the number of a set
after_set : {X : Type 0} → ℕ → List PartialSet → Option ℕ → (List PartialSet × ℕ → List Token → Parsed EfgKind X) → ℕ → List Token → Parsed EfgKind X
after_set k sets owner g label =
    named (λ name. use_then k sets (bare_use owner label name) (slice_get sets (set_place sets (owner, label))) (λ more. g (more, set_place sets (owner, label))))

after_set_reader : {X : Type 0} (k : ℕ) (sets : List PartialSet) (owner : Option ℕ) (g : List PartialSet × ℕ → List Token → Parsed EfgKind X) → ((label : ℕ) → IsReader (parse_first_list owner label)) → ((x : List PartialSet × ℕ) → IsReader (g x))
    → ((x : List PartialSet × ℕ) → ReadsNoBrace (g x)) → ((x : List PartialSet × ℕ) → ReadsNoText (g x)) → (label : ℕ) → IsReader (after_set k sets owner g label)
unfolding after_set
after_set_reader k sets owner g F G N T label =
    named_reader (λ name. use_then k sets (bare_use owner label name) (slice_get sets (set_place sets (owner, label))) (λ more. g (more, set_place sets (owner, label))))
    (λ name. use_reader k sets (bare_use owner label name) (slice_get sets (set_place sets (owner, label))) (λ more. g (more, set_place sets (owner, label))) (F label) (λ more. G (more, set_place sets (owner, label))) (λ more. N (more, set_place sets (owner, label))))
    (use_no_text k sets (bare_use owner label None) (slice_get sets (set_place sets (owner, label))) (λ more. g (more, set_place sets (owner, label))) (λ more. T (more, set_place sets (owner, label))))

set_is : {X : Type 0} (k : ℕ) (sets : List PartialSet) (owner : Option ℕ) (g : List PartialSet × ℕ → List Token → Parsed EfgKind X) (tokens : List Token)
    → (parse_set k sets owner tokens >>= λ x. g x.0 x.1) ≡ (wanted Node tokens (count_at tokens) >>= λ label. after_set k sets owner g label.0 label.1)
unfolding parse_set after_set
set_is k sets owner g tokens = elim (result_of (wanted Node tokens (count_at tokens))) [
  | inl y ↦
      rw y.1 (map_then (parse_use k sets (bare_use owner y.0.0 (optional_text_at y.0.1).0) (slice_get sets (set_place sets (owner, y.0.0))) (optional_text_at y.0.1).1) (λ more. (more, set_place sets (owner, y.0.0))) g)
  | inr f ↦ rw f.1 refl
]

-- what follows a set
pub set_part_reader : {X : Type 0} (k : ℕ) (sets : List PartialSet) (owner : Option ℕ) (g : List PartialSet × ℕ → List Token → Parsed EfgKind X) → ((label : ℕ) → IsReader (parse_first_list owner label)) → ((x : List PartialSet × ℕ) → IsReader (g x))
    → ((x : List PartialSet × ℕ) → ReadsNoBrace (g x)) → ((x : List PartialSet × ℕ) → ReadsNoText (g x)) → IsReader (λ tokens. parse_set k sets owner tokens >>= λ x. g x.0 x.1)
set_part_reader k sets owner g F G N T =
    same_reader (λ tokens. parse_set k sets owner tokens >>= λ x. g x.0 x.1) (λ tokens. wanted Node tokens (count_at tokens) >>= λ label. after_set k sets owner g label.0 label.1) (set_is k sets owner g)
    (bind_reader (λ tokens. wanted Node tokens (count_at tokens)) (λ label tokens. after_set k sets owner g label tokens) (count_reader Node) (λ _ label _. after_set_reader k sets owner g F G N T label))

-- ---- players
pub player_token : (players : ℕ) (t : Token) → ((x : ℕ) × ((rest : List Token) → parse_player players (t ∷ rest) ≡ Ok (x, rest))) ⊎ ((k : EfgKind) × ((rest : List Token) → parse_player players (t ∷ rest) ≡ Err (k, t ∷ rest)))
unfolding parse_player
player_token players t = elim (whole_is_head.by_token t) [
  | inl y ↦ elim (cases_Bool (nat_le 1 y.0 && nat_le y.0 players)) [
    | inl b ↦ inl (y.0 - 1, λ rest. rw (y.1 rest, b) refl)
    | inr b ↦ inr (UnknownPlayer, λ rest. rw (y.1 rest, b) refl)
  ]
  | inr n ↦ inr (Node, λ rest. rw (n rest) refl)
]

first_player : (players : ℕ) (rest : List Token) → 1 ≤ players → parse_player players (whole_number 1 ∷ rest) ≡ Ok (0, rest)
unfolding parse_player
first_player players rest h = rw (whole_again 1 rest, le_passes 1 players h) refl

no_player : (players : ℕ) → parse_player players [] ≡ Err (Node, [])
unfolding parse_player
no_player players = rw whole_is_head.none refl

pub player_reader : (players : ℕ) → 1 ≤ players → IsReader (parse_player players)
player_reader players h = token_reader (parse_player players) (record { token = whole_number 1; value = 0; is_read = λ rest. first_player players rest h; kind = Node; at_end = no_player players; by_token = player_token players })
