-- The number of the next pivot
use Rattle.std.proofs.Common.{ℕ, suc, ◌≡◌, min, inl, inr, ap, sym, ◌∙◌, arith}
use Rattle.std.proofs.lemmas.Bool.{cases_lt}
use Rattle.std.proofs.Math.Nat.{min-eq_left, min-eq_right}
use Rattle.lex_tableau.specs.Pivots.{pivot_number}

min_next : (k m : ℕ) → min (suc (min k m)) m ≡ min (suc k) m
min_next k m = elim (cases_lt k m) [
  | inl l ↦ ap (λ i. min (suc i) m) (min-eq_left (omega arith))
  | inr g ↦ ap (λ i. min (suc i) m) (min-eq_right (omega arith)) ∙ min-eq_right (omega arith) ∙ sym (min-eq_right (omega arith))
]

pub pivot_number_next : (k : ℕ) → pivot_number (suc (pivot_number k)) ≡ pivot_number (suc k)
pivot_number_next k = min_next k _
