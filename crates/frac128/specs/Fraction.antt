-- what a fraction stands for, which rationals fit one, and their order and sign
use Rattle.std.specs.Prelude.{ℕ, suc, ◌≡◌, ◌<◌, ◌^◌, nat_abs, pos, negsuc, neg_ℤ, ℤ, ◌<ℤ◌, Bool, true, false}
use Rattle.std.proofs.Common.{ap, ◌∙◌}
use Rattle.rational.proofs.PartLemmas.{pos_abs, pos_nat_abs}
use Rattle.rational.proofs.FractionLemmas.{frac-lowest}
use Rattle.rational.specs.Gcd.{gcd}
use Rattle.rational.specs.Rational.{ℚ, frac}
use Rattle.frac128.specs.declared.frac.Frac.TheInside.{Inside}

-- the rational for which a fraction's fields stand
abbrev pub value_of : Inside → ℚ
value_of a = frac a.num (nat_abs a.den)

-- a part of a fraction lies from -(2^127 - 1) to 2^127 - 1
abbrev pub PartFits : ℤ → Type 0
PartFits n = nat_abs n < 2 ^ 127

-- both parts of a rational in lowest terms fit
pub record Fits (q : ℚ) : Type 0 where
  pub num : PartFits q.num
  pub den : PartFits (pos q.den)

-- a positive denominator, no common divisor but 1, and both parts fit
pub record InLowestTerms (a : Inside) : Type 0 where
  pub den_pos : pos 0 <ℤ a.den
  pub lowest : gcd (nat_abs a.num) (nat_abs a.den) ≡ 1
  pub num_fits : PartFits a.num
  pub den_fits : PartFits a.den

-- n over d, where d may be negative; 0 where d is 0
abbrev pub quotient : ℤ → ℤ → ℚ
quotient n (pos d) = frac n d
quotient n (negsuc d) = frac (neg_ℤ n) (suc d)

-- the number of a size, negative where the test is true
abbrev pub with_sign : Bool → ℕ → ℤ
with_sign true n = neg_ℤ (pos n)
with_sign false n = pos n

-- the fields of a fraction with this value
abbrev pub fields_of : ℚ → Inside
fields_of q = record { num = q.num; den = pos q.den }

pub fields_of_value : (a : Inside) → InLowestTerms a → fields_of (value_of a) ≡ a
fields_of_value a h =
    let l = frac-lowest a.num (nat_abs a.den) (pos_abs a.den h.den_pos) h.lowest in
    λ i. record { num = l.0 i; den = (ap pos l.1 ∙ pos_nat_abs a.den h.den_pos) i }
