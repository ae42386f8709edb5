-- What one more use makes of the sets and the outcomes that were used before: the statements.
use Rattle.std.proofs.Common.{ℕ, ◌≡◌, true, List, [], ◌∷◌, ◌++◌, map, Some}
use Rattle.std.specs.List.{position_or_len, list_any}
use Rattle.std.specs.Prelude.{nat_eq}
use Rattle.written_trees.proofs.NumberedKeyLemmas.{sets_of, outcomes_of}
use Rattle.written_trees.specs.Written.{SetUse, OutcomeUse}
use Rattle.written_trees.specs.Described.{SetKey, key_of, same_set, uses_of_set, uses_of_outcome, first_some, first_list, AgreeOnActions, AgreeOnPayoffs}
use Rattle.written_trees.specs.Building.{PartialSet, PartialOutcome, set_place, outcome_place, use_set, use_outcome}

-- the set that these uses begin
abbrev pub partial_set : SetKey → List (ℕ × SetUse) → PartialSet
partial_set key uses = record {
  owner = key.0;
  label = key.1;
  name = first_some (map (λ x. x.1.name) uses);
  actions = first_list (map (λ x. x.1.actions) uses);
  members = map (λ x. x.0) uses;
}

-- the sets that these uses begin
abbrev pub sets_so_far : List (ℕ × SetUse) → List PartialSet
sets_so_far uses = map (λ key. partial_set key (uses_of_set key uses)) (sets_of uses)

-- the uses of each set agree
abbrev pub AllAgree : List (ℕ × SetUse) → Type 0
AllAgree uses = (key : SetKey) → AgreeOnActions (uses_of_set key uses)

-- one more use of a set
pub record SetStep (uses : List (ℕ × SetUse)) (k : ℕ) (u : SetUse) : Type 0 where
  pub built : (sets : List PartialSet) → AllAgree uses → use_set k (sets_so_far uses) u ≡ Some sets → AllAgree (uses ++ (k, u) ∷ []) × (sets ≡ sets_so_far (uses ++ (k, u) ∷ []))
  pub agreed : AllAgree (uses ++ (k, u) ∷ []) → AllAgree uses × (use_set k (sets_so_far uses) u ≡ Some (sets_so_far (uses ++ (k, u) ∷ [])))
  -- the set's place, and the places of the sets that were used before
  pub place_is : set_place (sets_so_far uses) (key_of u) ≡ position_or_len (same_set (key_of u)) (sets_of uses)
  pub place_stays : position_or_len (same_set (key_of u)) (sets_of (uses ++ (k, u) ∷ [])) ≡ position_or_len (same_set (key_of u)) (sets_of uses)
  pub places_stay : (key : SetKey) → list_any (same_set key) (sets_of uses) ≡ true → position_or_len (same_set key) (sets_of (uses ++ (k, u) ∷ [])) ≡ position_or_len (same_set key) (sets_of uses)
  pub is_used : list_any (same_set (key_of u)) (sets_of (uses ++ (k, u) ∷ [])) ≡ true
  pub stay_used : (key : SetKey) → list_any (same_set key) (sets_of uses) ≡ true → list_any (same_set key) (sets_of (uses ++ (k, u) ∷ [])) ≡ true

-- the outcome that these uses begin
abbrev pub partial_outcome : ℕ → List (ℕ × OutcomeUse) → PartialOutcome
partial_outcome label uses = record { label = label; name = first_some (map (λ x. x.1.name) uses); payoffs = first_list (map (λ x. x.1.payoffs) uses) }

abbrev pub outcomes_so_far : List (ℕ × OutcomeUse) → List PartialOutcome
outcomes_so_far uses = map (λ label. partial_outcome label (uses_of_outcome label uses)) (outcomes_of uses)

-- the uses of each outcome agree
abbrev pub PayoffsAgree : List (ℕ × OutcomeUse) → Type 0
PayoffsAgree uses = (label : ℕ) → AgreeOnPayoffs (uses_of_outcome label uses)

-- one more use of an outcome
pub record OutcomeStep (uses : List (ℕ × OutcomeUse)) (k : ℕ) (u : OutcomeUse) : Type 0 where
  pub built : (outcomes : List PartialOutcome) → PayoffsAgree uses → use_outcome (outcomes_so_far uses) u ≡ Some outcomes → PayoffsAgree (uses ++ (k, u) ∷ []) × (outcomes ≡ outcomes_so_far (uses ++ (k, u) ∷ []))
  pub agreed : PayoffsAgree (uses ++ (k, u) ∷ []) → PayoffsAgree uses × (use_outcome (outcomes_so_far uses) u ≡ Some (outcomes_so_far (uses ++ (k, u) ∷ [])))
  pub place_is : outcome_place (outcomes_so_far uses) u.label ≡ position_or_len (nat_eq u.label) (outcomes_of uses)
  pub place_stays : position_or_len (nat_eq u.label) (outcomes_of (uses ++ (k, u) ∷ [])) ≡ position_or_len (nat_eq u.label) (outcomes_of uses)
  pub places_stay : (label : ℕ) → list_any (nat_eq label) (outcomes_of uses) ≡ true → position_or_len (nat_eq label) (outcomes_of (uses ++ (k, u) ∷ [])) ≡ position_or_len (nat_eq label) (outcomes_of uses)
  pub is_used : list_any (nat_eq u.label) (outcomes_of (uses ++ (k, u) ∷ [])) ≡ true
  pub stay_used : (label : ℕ) → list_any (nat_eq label) (outcomes_of uses) ≡ true → list_any (nat_eq label) (outcomes_of (uses ++ (k, u) ∷ [])) ≡ true
