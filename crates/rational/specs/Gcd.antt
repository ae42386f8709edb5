-- The greatest common divisor of two naturals.
use Rattle.std.specs.Prelude.{ℕ, ℤ, pos, negsuc, neg_ℤ, ◌/◌, zero, suc, ◌%◌, true, false, eqb}

-- Euclid's steps, at most as many as the first number says
abbrev pub gcd_steps : ℕ → ℕ → ℕ → ℕ
gcd_steps zero a b = a
gcd_steps (suc k) a b = elim (eqb b 0) [ true ↦ a | false ↦ gcd_steps k b (a % b) ]

-- the greatest common divisor, and a where b is 0
unfoldable pub gcd : ℕ → ℕ → ℕ
gcd a b = gcd_steps b a b

-- n divided by g, rounded towards 0
abbrev pub div_ℤ : ℤ → ℕ → ℤ
div_ℤ (pos n) g = pos (n / g)
div_ℤ (negsuc n) g = neg_ℤ (pos (suc n / g))
