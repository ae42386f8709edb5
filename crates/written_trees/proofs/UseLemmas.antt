-- What one more node makes of the uses before it.
use Rattle.std.proofs.Common.{◌≡◌, ℕ, suc, ◌+◌, true, List, [], ◌∷◌, ◌++◌, length, All, IfSome, Option, Some, None, option_map, refl, sym, ap, ◌∙◌, append-nil, arith}
use Rattle.std.specs.List.{list_any}
use Rattle.std.specs.Prelude.{nat_eq}
use Rattle.std.proofs.lemmas.List.Elements.{All-nil, All-cons, All-head, All-tail}
use Rattle.written_trees.proofs.NumberedKeyLemmas.{sets_of, outcomes_of, set_number, outcome_number}
use Rattle.written_trees.specs.Written.{SetUse, OutcomeUse, WrittenNode}
use Rattle.written_trees.specs.Described.{with_number, uses_from, set_uses, outcome_uses, key_of, same_set}
use Rattle.written_trees.specs.Building.{PartialSet, PartialOutcome, outcome_place, use_some_set, use_some_outcome}
use Rattle.written_trees.proofs.UseStepLemmas.{sets_so_far, AllAgree, SetStep, outcomes_so_far, PayoffsAgree, OutcomeStep}
use Rattle.written_trees.proofs.SetUseLemmas.{set_step}
use Rattle.written_trees.proofs.OutcomeUseLemmas.{outcome_step}
use Rattle.written_trees.proofs.SetGrowthLemmas.{used_number}

-- ---- lists of uses
-- a number in front of others
with_number-append : {U : Type 0} (k : ℕ) (used : Option U) (uses more : List (ℕ × U)) → with_number k used (uses ++ more) ≡ with_number k used uses ++ more
with_number-append k None uses more = refl
with_number-append k (Some u) uses more = refl

-- the use of the last node comes last
pub uses_from-push : {U : Type 0} (used : WrittenNode → Option U) (k : ℕ) (written : List WrittenNode) (one : WrittenNode) → uses_from used k (written ++ one ∷ []) ≡ uses_from used k written ++ with_number (k + length written) (used one) []
uses_from-push used k [] one =
    let e : k + 0 ≡ k = omega arith in
    rw e refl
uses_from-push used k (node ∷ written) one =
    let e : k + suc (length written) ≡ suc k + length written = omega arith in
    rw e (ap (with_number k (used node)) (uses_from-push used (suc k) written one) ∙ with_number-append k (used node) _ _)

-- what holds of each use in the nodes
pub all_uses : {U : Type 0} (P : U → Type 0) (used : WrittenNode → Option U) (k : ℕ) (written : List WrittenNode) → All (λ node. IfSome (used node) P) written → All (λ (x : ℕ × U). P x.1) (uses_from used k written)
all_uses P used k [] h = All-nil (λ x. P x.1)
all_uses {U} P used k (node ∷ written) h =
    go (used node) (All-head (λ one. IfSome (used one) P) node written h) (all_uses P used (suc k) written (All-tail (λ one. IfSome (used one) P) node written h))
  where
    go : (o : Option U) → IfSome o P → All (λ (x : ℕ × U). P x.1) (uses_from used (suc k) written) → All (λ (x : ℕ × U). P x.1) (with_number k o (uses_from used (suc k) written))
    go None p rest = rest
    go (Some u) p rest = All-cons (λ x. P x.1) (k, u) (uses_from used (suc k) written) p rest

-- ---- sets
-- whether a set is used
abbrev pub IsUsedSet : List (ℕ × SetUse) → SetUse → Type 0
IsUsedSet uses u = list_any (same_set (key_of u)) (sets_of uses) ≡ true

-- what may be one more use of a set makes of the sets
pub record SetMore (uses : List (ℕ × SetUse)) (k : ℕ) (o : Option SetUse) (longer : List (ℕ × SetUse)) : Type 0 where
  pub built : (sets : List PartialSet) → AllAgree uses → use_some_set k (sets_so_far uses) o ≡ Some sets → AllAgree longer × (sets ≡ sets_so_far longer)
  pub agreed : AllAgree longer → AllAgree uses × (use_some_set k (sets_so_far uses) o ≡ Some (sets_so_far longer))
  pub number_is : used_number (sets_so_far uses) o ≡ set_number (sets_of longer) o
  pub numbers_stay : (other : Option SetUse) → IfSome other (IsUsedSet uses) → set_number (sets_of longer) other ≡ set_number (sets_of uses) other
  pub is_used : IfSome o (IsUsedSet longer)
  pub stay_used : (u : SetUse) → IsUsedSet uses u → IsUsedSet longer u

-- no use
set_more-none : (uses : List (ℕ × SetUse)) (k : ℕ) → SetMore uses k None uses
set_more-none uses k = record {
  built = λ sets h e. (h, cc);
  agreed = λ h. (h, refl);
  number_is = refl;
  numbers_stay = λ other h. refl;
  is_used = tt;
  stay_used = λ u h. h;
}

-- one more use
set_more-some : (uses : List (ℕ × SetUse)) (k : ℕ) (u : SetUse) → SetMore uses k (Some u) (uses ++ (k, u) ∷ [])
set_more-some uses k u = record {
  built = s.built;
  agreed = s.agreed;
  number_is = ap Some (s.place_is ∙ sym s.place_stays);
  numbers_stay = λ other. stays other;
  is_used = s.is_used;
  stay_used = λ used. s.stay_used (key_of used);
}
  where
    s : SetStep uses k u
    s = set_step uses k u

    stays : (other : Option SetUse) → IfSome other (IsUsedSet uses) → set_number (sets_of (uses ++ (k, u) ∷ [])) other ≡ set_number (sets_of uses) other
    stays None h = refl
    stays (Some used) h = ap Some (s.places_stay (key_of used) h)

-- either
set_more : (uses : List (ℕ × SetUse)) (k : ℕ) (o : Option SetUse) → SetMore uses k o (uses ++ with_number k o [])
set_more uses k None = rw append-nil (set_more-none uses k)
set_more uses k (Some u) = set_more-some uses k u

-- what one more node makes of the sets
pub sets_more : (written : List WrittenNode) (one : WrittenNode) → SetMore (set_uses written) (length written) one.set (set_uses (written ++ one ∷ []))
sets_more written one =
    let k : 0 + length written ≡ length written = omega arith in
    rw (uses_from-push (λ node. node.set) 0 written one, k) (set_more (set_uses written) (length written) one.set)

-- ---- outcomes
-- whether an outcome is used
abbrev pub IsUsedOutcome : List (ℕ × OutcomeUse) → OutcomeUse → Type 0
IsUsedOutcome uses u = list_any (nat_eq u.label) (outcomes_of uses) ≡ true

-- what may be one more use of an outcome makes of the outcomes
pub record OutcomeMore (uses : List (ℕ × OutcomeUse)) (o : Option OutcomeUse) (longer : List (ℕ × OutcomeUse)) : Type 0 where
  pub built : (outcomes : List PartialOutcome) → PayoffsAgree uses → use_some_outcome (outcomes_so_far uses) o ≡ Some outcomes → PayoffsAgree longer × (outcomes ≡ outcomes_so_far longer)
  pub agreed : PayoffsAgree longer → PayoffsAgree uses × (use_some_outcome (outcomes_so_far uses) o ≡ Some (outcomes_so_far longer))
  pub number_is : option_map (λ u. outcome_place (outcomes_so_far uses) u.label) o ≡ outcome_number (outcomes_of longer) o
  pub numbers_stay : (other : Option OutcomeUse) → IfSome other (IsUsedOutcome uses) → outcome_number (outcomes_of longer) other ≡ outcome_number (outcomes_of uses) other
  pub is_used : IfSome o (IsUsedOutcome longer)
  pub stay_used : (u : OutcomeUse) → IsUsedOutcome uses u → IsUsedOutcome longer u

-- no use
outcome_more-none : (uses : List (ℕ × OutcomeUse)) → OutcomeMore uses None uses
outcome_more-none uses = record {
  built = λ outcomes h e. (h, cc);
  agreed = λ h. (h, refl);
  number_is = refl;
  numbers_stay = λ other h. refl;
  is_used = tt;
  stay_used = λ u h. h;
}

-- one more use
outcome_more-some : (uses : List (ℕ × OutcomeUse)) (k : ℕ) (u : OutcomeUse) → OutcomeMore uses (Some u) (uses ++ (k, u) ∷ [])
outcome_more-some uses k u = record {
  built = s.built;
  agreed = s.agreed;
  number_is = ap Some (s.place_is ∙ sym s.place_stays);
  numbers_stay = λ other. stays other;
  is_used = s.is_used;
  stay_used = λ used. s.stay_used used.label;
}
  where
    s : OutcomeStep uses k u
    s = outcome_step uses k u

    stays : (other : Option OutcomeUse) → IfSome other (IsUsedOutcome uses) → outcome_number (outcomes_of (uses ++ (k, u) ∷ [])) other ≡ outcome_number (outcomes_of uses) other
    stays None h = refl
    stays (Some used) h = ap Some (s.places_stay used.label h)

-- either
outcome_more : (uses : List (ℕ × OutcomeUse)) (k : ℕ) (o : Option OutcomeUse) → OutcomeMore uses o (uses ++ with_number k o [])
outcome_more uses k None = rw append-nil (outcome_more-none uses)
outcome_more uses k (Some u) = outcome_more-some uses k u

-- what one more node makes of the outcomes
pub outcomes_more : (written : List WrittenNode) (one : WrittenNode) → OutcomeMore (outcome_uses written) one.outcome (outcome_uses (written ++ one ∷ []))
outcomes_more written one =
    let k : 0 + length written ≡ length written = omega arith in
    rw (uses_from-push (λ node. node.outcome) 0 written one, k) (outcome_more (outcome_uses written) (length written) one.outcome)
