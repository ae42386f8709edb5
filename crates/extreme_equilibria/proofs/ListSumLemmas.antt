-- Sums over the elements of an ascending list.
use Rattle.std.proofs.Common.{ℕ, zero, suc, ◌<◌, ◌≡◌, inl, inr, List, length, get_or, sym, ap, ◌∙◌, subst, arith}
use Rattle.std.specs.Prelude.{Contains}
use Rattle.std.specs.List.Sorted.{IsStrictlyIncreasing}
use Rattle.std.proofs.lemmas.Bool.{cases_lt, cases_eq}
use Rattle.rational.specs.Rational.{ℚ, ◌*ℚ◌, ◌≤ℚ◌, zero_ℚ}
use Rattle.rational.specs.Sum.{sum_to}
use Rattle.rational.proofs.Field.{le_or_lt, le_refl, le_of_lt, le_trans}
use Rattle.rational.proofs.Rules.{*ℚ-zero}
use Rattle.rational.proofs.SumLemmas.{sum_to-same, sum_to-zeros, sum_to-single, sum_to-exchange}
use Rattle.game_theory.specs.Mixed.{sure}
use Rattle.game_theory.proofs.SureStrategyLemmas.{sure-at, sure-other}
use Rattle.extreme_equilibria.proofs.KeptListLemmas.{place, contains_or_not, one_place, ascending-apart}

-- a sum of numbers that are 0 off an ascending list is the sum over the list
pub sum-over_list : (n : ℕ) (xs : List ℕ) (f : ℕ → ℚ) → IsStrictlyIncreasing xs → ((j : ℕ) → j < length xs → get_or xs j 0 < n) → ((t : ℕ) → t < n → (Contains xs t → ⊥) → f t ≡ zero_ℚ) → sum_to n f ≡ sum_to (length xs) (λ j. f (get_or xs j 0))
sum-over_list n xs f up within off =
    sum_to-same n _ _ (λ t l. sym (times t l))
    ∙ sum_to-exchange n (length xs) (λ t j. sure (get_or xs j 0) t *ℚ f t)
    ∙ sum_to-same (length xs) _ _ (λ j l. sum_to-single n (get_or xs j 0) f (within j l))
  where
    times : (t : ℕ) → t < n → sum_to (length xs) (λ j. sure (get_or xs j 0) t *ℚ f t) ≡ f t
    times t l = elim (contains_or_not cases_eq xs t) [
      | inl c ↦ let at = place xs t 0 c in
          sum_to-same (length xs) _ _ (λ j m. ap (λ x. x *ℚ f t) (elim (cases_eq j at.0) [
            | inl same ↦ ap (λ k. sure (get_or xs k 0) t) same ∙ ap (λ x. sure x t) at.2 ∙ sure-at t ∙ sym (ap (sure at.0) same ∙ sure-at at.0)
            | inr apart ↦ sure-other (get_or xs j 0) t (λ e. apart (one_place xs 0 (ascending-apart xs up) j at.0 m at.1 (sym e ∙ sym at.2))) ∙ sym (sure-other at.0 j apart)
          ]))
          ∙ sum_to-single (length xs) at.0 (λ j. f t) at.1
      | inr none ↦ sum_to-zeros (length xs) _ (λ j m. ap (λ x. sure (get_or xs j 0) t *ℚ x) (off t l none) ∙ *ℚ-zero _) ∙ sym (off t l none)
    ]

-- a number below n with the greatest value
pub greatest : (n : ℕ) (v : ℕ → ℚ) → (a : ℕ) × (a < suc n) × ((c : ℕ) → c < suc n → v c ≤ℚ v a)
greatest zero v = (0, omega arith, λ c l. let e : 0 ≡ c = omega arith in subst (λ x. v x ≤ℚ v 0) e (le_refl (v 0)))
greatest (suc n) v =
    let best = greatest n v in
    elim (le_or_lt (v (suc n)) (v best.0)) [
      | inl le ↦ (best.0, omega (arith, best.1), λ c l. elim (cases_lt c (suc n)) [ inl before ↦ best.2 c before | inr last ↦ let e : suc n ≡ c = omega arith in subst (λ x. v x ≤ℚ v best.0) e le ])
      | inr lt ↦ (suc n, omega arith, λ c l. elim (cases_lt c (suc n)) [ inl before ↦ le_trans _ _ _ (best.2 c before) (le_of_lt _ _ lt) | inr last ↦ let e : suc n ≡ c = omega arith in subst (λ x. v x ≤ℚ v (suc n)) e (le_refl (v (suc n))) ])
    ]
