-- The column that enters.
use Rattle.std.proofs.Common.{ℕ, ℤ, pos, negsuc, Bool, List, [], ◌∷◌, Option, Some, None, MatchOption, map-id, ◌<◌, ◌≤◌, ◌≡◌, ◌<ℤ◌, sym, subst, ◌∙◌, arith}
use Rattle.std.proofs.lemmas.Int.{ints}
use Rattle.std.proofs.iter.Yields.{gives_Drains}
use Rattle.std.proofs.lemmas.Iterator.{YieldsList}
use Rattle.std.specs.Fn.{CalledAt}
use Rattle.std.specs.Int.{int_signum}
use Rattle.std.specs.Iterator.{PicksMinByKey}
use Rattle.std.specs.List.{AllByRecursion, filter, range_with_len}
use Rattle.std.specs.Ordering.{nat_cmp}
use denote.Param.Members.{Mut}
use denote.Ref.{Bor}
use Rattle.lists.proofs.LeastKeyLemmas.{least, all_that_pass, each_that_passes}
use Rattle.rational.proofs.PartLemmas.{negative-num}
use Rattle.rational.specs.Rational.{ℚ, zero_ℚ, ◌<ℚ◌}
use Rattle.rational.proofs.Field.{le_of_not_lt}
use Rattle.rational.specs.Tests.{lt_test, sign_of}
use Rattle.rational.proofs.Decide.{lt_test-true}
use Rattle.linear_systems.specs.Tableau.{Tableau}
use Rattle.zero_sum_lp.specs.Paths.{IsEntering, IsOptimal}

-- whether the entry of row m in a column is below 0
abbrev pub is_below : ℕ → Tableau → ℕ → Bool
is_below m t j = lt_test (t.cell m j) zero_ℚ

-- the column that is taken among those with a negative entry by the least number of its variable
module _ {S F : Type 0} {steps : S → Option ℕ → S → Type 0} {g : Mut F (Bor ℕ × Unit {0}) ℕ} {f : F} {s : S} (m : ℕ) (t : Tableau)
    (gives : (x : ℕ) (k : ℕ) (q : F) → CalledAt g f x k q → (q ≡ f) × (k ≡ t.nonbasic x)) where
  pub enters : (taken : Option ℕ) → PicksMinByKey steps g nat_cmp s f taken → YieldsList steps (λ x. x) s (filter (is_below m t) (range_with_len 0 t.width))
      → MatchOption taken (IsOptimal m t) (IsEntering m t)
  enters None picked road =
      let none = gives_Drains steps (λ x. x) [] _ s road.runs picked in
      λ j l. le_of_not_lt zero_ℚ (t.cell m j) (λ b. each_that_passes (λ _. ⊥) (is_below m t) 0 t.width j (subst (AllByRecursion (λ _. ⊥)) none tt) (omega arith) (omega (arith, l)) ((lt_test-true (t.cell m j) zero_ℚ).1 b))
  enters (Some y) picked road =
      let x = picked.0 in
      let xs = picked.1 in
      let called = gives x picked.2 picked.3 picked.6 in
      let all = sym (map-id (x ∷ xs)) ∙ gives_Drains steps (λ x. x) (x ∷ xs) _ s road.runs picked.5 in
      let best = least g t.nonbasic f gives xs x y picked.2 picked.3 picked.4 called.0 called.1 picked.7 in
      let passing = subst (AllByRecursion (λ j. (j < t.width) × (t.cell m j <ℚ zero_ℚ))) (sym all) (all_that_pass (λ j. (j < t.width) × (t.cell m j <ℚ zero_ℚ)) (is_below m t) 0 t.width (λ j _ r b. (omega (arith, r), (lt_test-true (t.cell m j) zero_ℚ).0 b))) in
      let found = best.0 (λ j. (j < t.width) × (t.cell m j <ℚ zero_ℚ)) passing.0 passing.1 in
      record {
        column = found.0;
        negative = found.1;
        least = λ j l b. each_that_passes (λ z. t.nonbasic y ≤ t.nonbasic z) (is_below m t) 0 t.width j (subst (AllByRecursion (λ z. t.nonbasic y ≤ t.nonbasic z)) all best.1) (omega arith) (omega (arith, l)) ((lt_test-true (t.cell m j) zero_ℚ).1 b);
      }

-- ---- signs
sign_below : (n : ℤ) → int_signum n <ℤ pos 0 → n <ℤ pos 0
sign_below (pos n) h = absurd (omega (arith, ints, h))
sign_below (negsuc n) h = omega (arith, ints)

pub below_by_sign : (q : ℚ) (s : ℤ) → s ≡ sign_of q → s <ℤ pos 0 → q <ℚ zero_ℚ
below_by_sign q s e h = (negative-num q).1 (sign_below q.num (subst (λ z. z <ℤ pos 0) e h))

sign_of_below : (n : ℤ) → n <ℤ pos 0 → int_signum n <ℤ pos 0
sign_of_below (pos n) h = absurd (omega (arith, ints, h))
sign_of_below (negsuc n) h = omega (arith, ints)

pub below_has_sign : (q : ℚ) (s : ℤ) → s ≡ sign_of q → q <ℚ zero_ℚ → s <ℤ pos 0
below_has_sign q s e h = subst (λ z. z <ℤ pos 0) (sym e) (sign_of_below q.num ((negative-num q).0 h))
