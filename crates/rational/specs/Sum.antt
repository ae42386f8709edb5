-- The entries of lists of rationals, and sums over the numbers below a bound.
use Rattle.std.specs.Prelude.{ℕ, zero, suc, ◌<◌, ◌≡◌, eqb, cond, List, slice_index_or}
use Rattle.rational.specs.Rational.{ℚ, ◌+ℚ◌, ◌≤ℚ◌, zero_ℚ, one_ℚ}

-- the entry at a place, and 0 beyond the list's end
abbrev pub entry_at : List ℚ → ℕ → ℚ
entry_at entries place = slice_index_or entries place zero_ℚ

-- f 0 + .. + f (n - 1)
abbrev pub sum_to : ℕ → (ℕ → ℚ) → ℚ
sum_to zero f = zero_ℚ
sum_to (suc n) f = sum_to n f +ℚ f n

-- f with another value at c
abbrev pub change : (ℕ → ℚ) → ℕ → ℚ → ℕ → ℚ
change f c v j = cond (eqb j c) v (f j)

-- a probability distribution over n things: none is negative, and they sum to 1
pub record IsDistribution (n : ℕ) (x : ℕ → ℚ) : Type 0 where
  pub not_negative : (i : ℕ) → i < n → zero_ℚ ≤ℚ x i
  pub sum_is_one : sum_to n x ≡ one_ℚ
