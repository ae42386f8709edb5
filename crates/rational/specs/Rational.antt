-- The rational numbers: a numerator over a positive denominator, in lowest terms, so that equal
-- numbers are one record.
use Rattle.std.specs.Prelude.{ℕ, zero, suc, ◌*◌, ℤ, pos, negsuc, ◌+ℤ◌, ◌*ℤ◌, neg_ℤ, nat_abs, ◌≤ℤ◌, ◌<ℤ◌, ◌/◌, Bool, T, nat_lt, nat_eq, ◌&&◌}
use Rattle.std.proofs.Common.{rules, arith}
use Rattle.rational.specs.Gcd.{gcd, div_ℤ}
use Rattle.rational.specs.LowestTerms.{den-pos, div_ℤ-lowest}

-- d is positive, and n and d share no divisor but 1
unfoldable pub is_lowest : ℤ → ℕ → Bool
is_lowest n d = nat_lt 0 d && nat_eq (gcd (nat_abs n) d) 1

-- a rational: a numerator over a denominator, which pass the test of lowest terms, so that two
-- rationals with equal parts are one
pub record ℚ : Type 0 where
  pub num : ℤ
  pub den : ℕ
  pub ok : T (is_lowest num den)

-- 0 over 1 is in lowest terms
pub IsLowest-zero : T (is_lowest (pos 0) 1)
unfolding is_lowest gcd
IsLowest-zero = tt

-- what `frac` divides down to is in lowest terms
pub IsLowest-frac : (n : ℤ) (d : ℕ)
    → T (is_lowest (div_ℤ n (gcd (nat_abs n) (suc d))) (suc d / gcd (nat_abs n) (suc d)))
unfolding is_lowest
IsLowest-frac n d = search (rules, arith, den-pos (nat_abs n) d, div_ℤ-lowest n d)

-- n over d, and 0 where d is 0
unfoldable pub frac : ℤ → ℕ → ℚ
frac n zero = record { num = pos 0; den = 1; ok = IsLowest-zero }
frac n (suc d) =
    record {
      num = div_ℤ n (gcd (nat_abs n) (suc d));
      den = suc d / gcd (nat_abs n) (suc d);
      ok = IsLowest-frac n d;
    }

infixl 60 ◌+ℚ◌ ◌-ℚ◌
infixl 70 ◌*ℚ◌
infix 50 ◌≤ℚ◌ ◌<ℚ◌
-- a sum, over the product of the denominators
unfoldable pub ◌+ℚ◌ : ℚ → ℚ → ℚ
a +ℚ b = frac ((a.num *ℤ pos b.den) +ℤ (b.num *ℤ pos a.den)) (a.den * b.den)

-- a product
unfoldable pub ◌*ℚ◌ : ℚ → ℚ → ℚ
a *ℚ b = frac (a.num *ℤ b.num) (a.den * b.den)

-- a number with the other sign
unfoldable pub neg_ℚ : ℚ → ℚ
neg_ℚ a = frac (neg_ℤ a.num) a.den

-- a difference
abbrev pub ◌-ℚ◌ : ℚ → ℚ → ℚ
a -ℚ b = a +ℚ neg_ℚ b

-- 1 over a, and 0 for 0
unfoldable pub inv_ℚ : ℚ → ℚ
inv_ℚ a = elim a.num [ pos n ↦ frac (pos a.den) n | negsuc n ↦ frac (neg_ℤ (pos a.den)) (suc n) ]

-- a is at most b, compared by cross products
pub record ◌≤ℚ◌ (a b : ℚ) : Type 0 where
  pub cross : (a.num *ℤ pos b.den) ≤ℤ (b.num *ℤ pos a.den)

-- a is below b, compared by cross products
pub record ◌<ℚ◌ (a b : ℚ) : Type 0 where
  pub cross : (a.num *ℤ pos b.den) <ℤ (b.num *ℤ pos a.den)

-- a whole number
abbrev pub whole : ℤ → ℚ
whole n = frac n 1

-- 0
abbrev pub zero_ℚ : ℚ
zero_ℚ = frac (pos 0) 1

-- 1
abbrev pub one_ℚ : ℚ
one_ℚ = frac (pos 1) 1
