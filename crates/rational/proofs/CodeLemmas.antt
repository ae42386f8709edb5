-- How a rational is stored as numbers.
use Rattle.std.proofs.Common.{ℕ, ℤ}
use Rattle.std.specs.Coded.{Coded, code_by, coded×, coded_ℕ, coded_ℤ}
use Rattle.rational.specs.Rational.{ℚ, frac}
use Rattle.rational.proofs.FractionLemmas.{frac_self}

-- a rational is stored as its numerator and denominator
abbrev pub code_ℚ : Coded ℚ
code_ℚ = code_by (ℤ × ℕ) (coded× coded_ℤ coded_ℕ) (λ q. (q.num, q.den)) (λ p. frac p.0 p.1) frac_self
