-- The tests of groups one after another.
use Rattle.std.proofs.Common.{ℕ, suc, ◌+◌, ◌<◌, ◌≤◌, ◌≡◌, List, [], ◌∷◌, ◌++◌, All, length, slice_get, take, drop, Err, Some, refl, sym, ap, ap₂, ◌∙◌, subst, append_assoc, arith}
use Rattle.std.specs.Prelude.{sum}
use Rattle.std.proofs.lemmas.List.{take_more, length-take-le, take-append-drop}
use Rattle.std.proofs.lemmas.List.Elements.{All-append}
use Rattle.std.proofs.lemmas.List.{append-nil}
use Rattle.std.proofs.lemmas.List.Sums.{sum_by-cons}
use Rattle.std.proofs.lemmas.Option.{slice_get_within, get_or_from_slice_get}
use Rattle.rational.specs.Rational.{ℚ}
use Rattle.behaviour_profile.specs.declared.entries.ProfileFault.{ProfileFault}
use Rattle.behaviour_profile.specs.EntryTests.{TestHolds, group_tests, tests_from}
use Rattle.behaviour_profile.proofs.FirstFaultLemmas.{fault-more, fault-following, tests_in}

pub sum-nil : sum [] ≡ 0
sum-nil = refl

pub sum-cons : (x : ℕ) (xs : List ℕ) → sum (x ∷ xs) ≡ x + sum xs
sum-cons x xs = sum_by-cons (λ y. y) x xs

pub sum-append : (xs ys : List ℕ) → sum (xs ++ ys) ≡ sum xs + sum ys
sum-append [] ys = omega (arith, sum-nil)
sum-append (x ∷ xs) ys = omega (arith, sum-append xs ys, sum-cons x xs, sum-cons x (xs ++ ys))

module _ (entries : List ℚ) where
  -- the tests of more groups
  pub tests-append : (place group : ℕ) (xs ys : List ℕ) → tests_from entries place group (xs ++ ys) ≡ tests_from entries place group xs ++ tests_from entries (place + sum xs) (group + length xs) ys
  tests-append place group [] ys = ap₂ (λ p g. tests_from entries p g ys) (omega (arith, sum-nil)) (omega arith)
  tests-append place group (x ∷ xs) ys =
      ap (λ v. group_tests entries place group x ++ v)
      (tests-append (place + x) (suc group) xs ys
      ∙ ap₂ (λ p g. tests_from entries (place + x) (suc group) xs ++ tests_from entries p g ys) (omega (arith, sum-cons x xs)) (omega arith))
      ∙ sym (append_assoc (group_tests entries place group x) _ _)

  module _ (place group : ℕ) (xs ys : List ℕ) (passed : All TestHolds (tests_from entries place group xs)) where
    -- groups pass with those before them
    pub groups_pass : All TestHolds (tests_from entries (place + sum xs) (group + length xs) ys) → All TestHolds (tests_from entries place group (xs ++ ys))
    groups_pass h = subst (All TestHolds) (sym (tests-append place group xs ys)) (All-append TestHolds _ _ passed h)

    -- and the first fault after groups that pass is the first of all
    pub groups_fault : (fault : ProfileFault) → tests_in (tests_from entries (place + sum xs) (group + length xs) ys) (Err fault) → tests_in (tests_from entries place group (xs ++ ys)) (Err fault)
    groups_fault fault h = subst (λ tests. tests_in tests (Err fault)) (sym (tests-append place group xs ys)) (fault-following _ _ fault passed h)

  -- it stays the first before further groups
  pub fault-longer : (place group : ℕ) (xs ys : List ℕ) (fault : ProfileFault) → tests_in (tests_from entries place group xs) (Err fault) → tests_in (tests_from entries place group (xs ++ ys)) (Err fault)
  fault-longer place group xs ys fault h = subst (λ tests. tests_in tests (Err fault)) (sym (tests-append place group xs ys)) (fault-more _ _ fault h)

-- ---- the groups before one
module _ (sizes : List ℕ) (k n : ℕ) (at : slice_get sizes k ≡ Some n) where
  pub taken : take (k + 1) sizes ≡ take k sizes ++ n ∷ []
  taken = take_more sizes k 0 (slice_get_within sizes k n at) ∙ ap (λ v. take k sizes ++ v ∷ []) (get_or_from_slice_get sizes k n 0 at)

  -- with it, and those after
  split : sizes ≡ (take k sizes ++ n ∷ []) ++ drop (k + 1) sizes
  split = sym (take-append-drop (k + 1) sizes) ∙ ap (λ v. v ++ drop (k + 1) sizes) taken

  -- one more counts with its size
  pub sum-next : sum (take (k + 1) sizes) ≡ sum (take k sizes) + n
  sum-next = ap sum taken ∙ sum-append (take k sizes) (n ∷ []) ∙ omega (arith, sum-cons n [], sum-nil)

  -- and its end lies within the sum
  pub end-within : sum (take k sizes) + n ≤ sum sizes
  end-within =
      let all = ap sum split ∙ sum-append (take k sizes ++ n ∷ []) (drop (k + 1) sizes) in
      let front = sum-append (take k sizes) (n ∷ []) in
      omega (arith, all, front, sum-cons n [], sum-nil)

  pub number-within : k < length sizes
  number-within = slice_get_within sizes k n at

  pub length-taken : length (take k sizes) ≡ k
  length-taken = length-take-le k sizes (omega (arith, number-within))

  module _ (entries : List ℚ) (place group p g : ℕ) (place_is : p ≡ place + sum (take k sizes)) (group_is : g ≡ group + k) (passed : All TestHolds (tests_from entries place group (take k sizes))) where
    here : group_tests entries p g n ≡ group_tests entries (place + sum (take k sizes)) (group + length (take k sizes)) n
    here = ap₂ (λ x y. group_tests entries x y n) place_is (group_is ∙ ap (λ x. group + x) (sym length-taken))

    one_group : group_tests entries p g n ≡ tests_from entries (place + sum (take k sizes)) (group + length (take k sizes)) (n ∷ [])
    one_group = here ∙ sym (append-nil _)

    pub next_passes : All TestHolds (group_tests entries p g n) → All TestHolds (tests_from entries place group (take (k + 1) sizes))
    next_passes h = subst (λ v. All TestHolds (tests_from entries place group v)) (sym taken) (groups_pass entries place group (take k sizes) (n ∷ []) passed (subst (All TestHolds) one_group h))

    pub next_fault : (fault : ProfileFault) → tests_in (group_tests entries p g n) (Err fault) → tests_in (tests_from entries place group sizes) (Err fault)
    next_fault fault h =
        subst (λ v. tests_in (tests_from entries place group v) (Err fault)) (sym split)
        (fault-longer entries place group (take k sizes ++ n ∷ []) (drop (k + 1) sizes) fault
        (groups_fault entries place group (take k sizes) (n ∷ []) passed fault (subst (λ tests. tests_in tests (Err fault)) one_group h)))
