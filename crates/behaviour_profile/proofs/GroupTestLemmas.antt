-- The tests of a group, entry by entry.
use Rattle.std.proofs.Common.{ℕ, zero, suc, ℤ, pos, negsuc, ◌≤ℤ◌, ◌<ℤ◌, ◌+◌, ◌<◌, ◌≤◌, ◌≡◌, inl, inr, Err, List, [], ◌∷◌, All, refl, sym, ap, ap₂, ◌∙◌, subst, add-one, arith, eq-or-lt_of_le, le_of_suc-le-suc}
use Rattle.std.specs.List.{range_with_len, flat_map}
use Rattle.std.specs.Int.{int_signum}
use Rattle.std.proofs.lemmas.Int.{ints}
use Rattle.std.proofs.lemmas.List.Elements.{All-nil, All-cons, All-append}
use Rattle.lists.proofs.ElementLemmas.{made-next}
use Rattle.rational.specs.Rational.{ℚ, ◌+ℚ◌, ◌≤ℚ◌, zero_ℚ, one_ℚ}
use Rattle.rational.specs.Sum.{sum_to, entry_at}
use Rattle.rational.specs.Tests.{sign_of}
use Rattle.rational.proofs.PartLemmas.{nonneg-num}
use Rattle.frac128.specs.Steps.{AddFits, step_of, Step}
use Rattle.frac128.specs.declared.steps.Op.TheVariants.{Add}
use Rattle.behaviour_profile.specs.declared.entries.ProfileFault.{ProfileFault}
use Rattle.behaviour_profile.specs.declared.entries.ProfileFault.TheVariants as faults
use Rattle.behaviour_profile.specs.EntryTests.{Test, IsNotNegative, CanBeAdded, SumsToOne, TestHolds, entry_tests, group_tests}
use Rattle.behaviour_profile.proofs.FirstFaultLemmas.{fault-more, fault-following, fault-here, tests_in}

-- a number with a negative sign is negative
pub negative_by_sign : (q : ℚ) (sign : ℤ) → sign ≡ sign_of q → sign <ℤ pos 0 → zero_ℚ ≤ℚ q → ⊥
negative_by_sign q sign is h l = go q.num ((nonneg-num q).0 l) (subst (λ z. z <ℤ pos 0) is h)
  where
    go : (z : ℤ) → pos 0 ≤ℤ z → int_signum z <ℤ pos 0 → ⊥
    go (pos n) k s = omega (arith, ints)
    go (negsuc n) k s = omega (arith, ints)

module _ (entries : List ℚ) (place : ℕ) where
  abbrev pub tests_below : ℕ → List Test
  tests_below k = flat_map (entry_tests entries place) (range_with_len 0 k)

  abbrev pub sum_below : ℕ → ℚ
  sum_below k = sum_to k (λ j. entry_at entries (place + j))

  -- the two tests of an entry
  abbrev pub sign_at : ℕ → Test
  sign_at k = IsNotNegative (place + k) (entry_at entries (place + k))

  abbrev pub addition_at : ℕ → Test
  addition_at k = CanBeAdded (step_of Add (sum_below k) (entry_at entries (place + k)))

  -- a fault among the first tests is the first of the group
  longer : (m n : ℕ) (fault : ProfileFault) → m ≤ n → tests_in (tests_below m) (Err fault) → tests_in (tests_below n) (Err fault)
  longer m zero fault l h = let e : m ≡ 0 = omega arith in subst (λ k. tests_in (tests_below k) (Err fault)) e h
  longer m (suc n) fault l h = elim (eq-or-lt_of_le l) [
    | inl e ↦ subst (λ k. tests_in (tests_below k) (Err fault)) e h
    | inr b ↦ subst (λ tests. tests_in tests (Err fault)) (sym (made-next (entry_tests entries place) n)) (fault-more (tests_below n) (entry_tests entries place n) fault (longer m n fault (le_of_suc-le-suc b) h))
  ]

  module _ (k : ℕ) (entry sum : ℚ) (is : entry ≡ entry_at entries (place + k)) (so_far : sum ≡ sum_below k) (passed : All TestHolds (tests_below k)) where
    -- a fault at entry k is the first of the group
    at-entry : (group n : ℕ) (fault : ProfileFault) → k < n → tests_in (entry_tests entries place k) (Err fault) → tests_in (group_tests entries place group n) (Err fault)
    at-entry group n fault l h =
        fault-more (tests_below n) (SumsToOne group (sum_below n) ∷ []) fault
        (longer (suc k) n fault (omega arith) (subst (λ tests. tests_in tests (Err fault)) (sym (made-next (entry_tests entries place) k)) (fault-following (tests_below k) (entry_tests entries place k) fault passed h)))

    pub negative_here : (group n at : ℕ) → k < n → at ≡ place + k → (zero_ℚ ≤ℚ entry → ⊥) → tests_in (group_tests entries place group n) (Err (faults.Negative at))
    negative_here group n at l at_is fails =
        at-entry group n (faults.Negative at) l (fault-here (sign_at k) (addition_at k ∷ []) (faults.Negative at) (subst (λ x. zero_ℚ ≤ℚ x → ⊥) is fails) (ap faults.Negative at_is))

    step_is : step_of Add sum entry ≡ step_of Add (sum_below k) (entry_at entries (place + k))
    step_is = ap₂ (step_of Add) so_far is

    pub unfit_here : (group n : ℕ) (step : Step) → k < n → zero_ℚ ≤ℚ entry → step ≡ step_of Add sum entry → (AddFits sum entry → ⊥) → tests_in (group_tests entries place group n) (Err (faults.Unfit step))
    unfit_here group n step l positive step_was fails =
        at-entry group n (faults.Unfit step) l
        (fault-following (sign_at k ∷ []) (addition_at k ∷ []) (faults.Unfit step)
        (All-cons TestHolds (sign_at k) [] (subst (λ x. zero_ℚ ≤ℚ x) is positive) (All-nil TestHolds))
        (fault-here (addition_at k) [] (faults.Unfit step)
        (λ fits. fails (let back : AddFits (sum_below k) (entry_at entries (place + k)) = fits in subst (λ x. AddFits x entry) (sym so_far) (subst (λ x. AddFits (sum_below k) x) (sym is) back)))
        (ap faults.Unfit (step_was ∙ step_is))))

    -- one entry more
    pub passed-next : zero_ℚ ≤ℚ entry → AddFits sum entry → All TestHolds (tests_below (k + 1))
    passed-next positive fits =
        subst (λ n. All TestHolds (tests_below n)) (sym (add-one k))
        (subst (All TestHolds) (sym (made-next (entry_tests entries place) k))
        (All-append TestHolds (tests_below k) (entry_tests entries place k) passed
        (All-cons TestHolds (sign_at k) (addition_at k ∷ []) (subst (λ x. zero_ℚ ≤ℚ x) is positive)
        (All-cons TestHolds (addition_at k) [] (subst (λ x. AddFits x (entry_at entries (place + k))) so_far (subst (λ x. AddFits sum x) is fits)) (All-nil TestHolds)))))

    pub sum-next : (new : ℚ) → new ≡ sum +ℚ entry → new ≡ sum_below (k + 1)
    sum-next new e = e ∙ ap₂ (λ a b. a +ℚ b) so_far is ∙ ap sum_below (sym (add-one k))

  -- all tests of a group
  pub group-passed : (group n : ℕ) (sum : ℚ) → sum ≡ sum_below n → All TestHolds (tests_below n) → sum ≡ one_ℚ → All TestHolds (group_tests entries place group n)
  group-passed group n sum so_far passed is =
      All-append TestHolds (tests_below n) (SumsToOne group (sum_below n) ∷ []) passed (All-cons TestHolds (SumsToOne group (sum_below n)) [] (sym so_far ∙ is) (All-nil TestHolds))

  pub sum_here : (group n : ℕ) (sum : ℚ) → sum ≡ sum_below n → All TestHolds (tests_below n) → (sum ≡ one_ℚ → ⊥) → tests_in (group_tests entries place group n) (Err (faults.Sum group))
  sum_here group n sum so_far passed fails =
      fault-following (tests_below n) (SumsToOne group (sum_below n) ∷ []) (faults.Sum group) passed
      (fault-here (SumsToOne group (sum_below n)) [] (faults.Sum group) (λ e. fails (so_far ∙ e)) refl)
