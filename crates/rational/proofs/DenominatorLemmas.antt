-- The denominator of a rational is positive, and shares no divisor with the numerator.
use Rattle.std.specs.Prelude.{ℕ, ◌<◌, ◌≡◌, ℤ, nat_abs, T}
use Rattle.std.proofs.Common.{rules, arith, tests}
use Rattle.rational.specs.Gcd.{gcd}
use Rattle.rational.specs.Rational.{ℚ, is_lowest}

-- what the test of lowest terms tells
lowest-out : (n : ℤ) (d : ℕ) → T (is_lowest n d) → (0 < d) × (gcd (nat_abs n) d ≡ 1)
unfolding is_lowest
lowest-out n d t = grind (arith, tests)

-- a pair with these two facts passes the test
pub lowest-in : (n : ℤ) (d : ℕ) → 0 < d → gcd (nat_abs n) d ≡ 1 → T (is_lowest n d)
unfolding is_lowest
lowest-in n d h e = search (rules, arith)

-- a denominator is positive
pub den_pos : (q : ℚ) → 0 < q.den
den_pos q = (lowest-out q.num q.den q.ok).0

-- numerator and denominator share no divisor
pub lowest : (q : ℚ) → gcd (nat_abs q.num) q.den ≡ 1
lowest q = (lowest-out q.num q.den q.ok).1
