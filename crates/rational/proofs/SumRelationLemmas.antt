-- Relations of numbers that sums keep.
use Rattle.std.proofs.Common.{ℕ, ◌<◌, ◌≡◌, inl, inr, ap}
use Rattle.rational.specs.Rational.{ℚ, ◌+ℚ◌, ◌≤ℚ◌}
use Rattle.rational.specs.Sum.{sum_to}
use Rattle.rational.proofs.Decide.{eq_or_ne}
use Rattle.rational.proofs.Field.{le-add_left, le_of_eq, le_of_not_lt, not_le_of_lt}
use Rattle.rational.proofs.SumLemmas.{sum_to-le, sum_to-same}

-- a relation that sums keep, and that holds where its denial is refuted
pub record IsKeptBySums (R : ℚ → ℚ → Type 0) : Type 0 where
  pub same : (x y : ℚ) → x ≡ y → R x y
  pub plus : (z x y : ℚ) → R x y → R (z +ℚ x) (z +ℚ y)
  pub sums : (n : ℕ) (f g : ℕ → ℚ) → ((a : ℕ) → a < n → R (f a) (g a)) → R (sum_to n f) (sum_to n g)
  pub stable : (x y : ℚ) → ((R x y → ⊥) → ⊥) → R x y

-- equality is one
pub equality-kept : IsKeptBySums (λ x y. x ≡ y)
equality-kept = record {
  same = λ x y e. e;
  plus = λ z x y e. ap (λ v. z +ℚ v) e;
  sums = sum_to-same;
  stable = λ x y h. elim (eq_or_ne x y) [ inl e ↦ e | inr apart ↦ absurd (h apart) ];
}

-- so is order
pub order-kept : IsKeptBySums (λ x y. x ≤ℚ y)
order-kept = record {
  same = le_of_eq;
  plus = le-add_left;
  sums = sum_to-le;
  stable = λ x y h. le_of_not_lt x y (λ less. h (not_le_of_lt y x less));
}
