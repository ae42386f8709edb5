-- Tests of order and equality that compute at literals; order and sign as code answers them.
use Rattle.std.specs.Prelude.{ℤ, Bool, pos, ◌*ℤ◌, int_le, int_lt, nat_eq}
use Rattle.std.specs.declared.cmp.Ordering.{Ordering}
use Rattle.std.specs.Ordering.{int_cmp, int_eq, eq_of_both, on}
use Rattle.std.specs.Int.{int_signum}
use Rattle.rational.specs.Rational.{ℚ}

-- whether a is at most b, by the cross products of numerators and denominators
unfoldable pub le_test : ℚ → ℚ → Bool
le_test a b = int_le (a.num *ℤ pos b.den) (b.num *ℤ pos a.den)

-- whether a is below b
unfoldable pub lt_test : ℚ → ℚ → Bool
lt_test a b = int_lt (a.num *ℤ pos b.den) (b.num *ℤ pos a.den)

-- the order of two rationals, by their cross products
abbrev pub cmp_ℚ : ℚ → ℚ → Ordering
cmp_ℚ a b = int_cmp (a.num *ℤ pos b.den) (b.num *ℤ pos a.den)

-- whether two rationals are the same, part by part
abbrev pub eq_ℚ : ℚ → ℚ → Bool
eq_ℚ = eq_of_both (on (λ q. q.num) int_eq) (on (λ q. q.den) nat_eq)

-- -1, 0 or 1, as a rational is negative, zero or positive
abbrev pub sign_of : ℚ → ℤ
sign_of a = int_signum a.num
