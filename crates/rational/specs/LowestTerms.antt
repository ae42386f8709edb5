-- What is needed to bring a pair to lowest terms.
use Rattle.std.proofs.Common.{ℕ, zero, suc, ◌/◌, ◌*◌, ◌<◌, ◌≡◌, ℤ, pos, negsuc, neg_ℤ, nat_abs, arith, refl, zero-lt-suc}
use native.Mathlib.Nat.{div-mul_cancel}
use Rattle.rational.specs.Gcd.{gcd, div_ℤ}
use Rattle.rational.specs.GcdLaws.{gcd-is, gcd-parts}

-- the size of a negated natural
abs_neg_pos : (n : ℕ) → nat_abs (neg_ℤ (pos n)) ≡ n
abs_neg_pos zero = refl
abs_neg_pos (suc n) = refl

-- division towards 0 divides the size
pub nat_abs-div_ℤ : (n : ℤ) (g : ℕ) → nat_abs (div_ℤ n g) ≡ nat_abs n / g
nat_abs-div_ℤ (pos n) g = refl
nat_abs-div_ℤ (negsuc n) g = abs_neg_pos (suc n / g)

-- a factor of a positive number is positive
pos_of_factor : (x g n : ℕ) → x * g ≡ suc n → 0 < x
pos_of_factor x g n e = grind arith

-- the denominator that is left in lowest terms is positive
pub den-pos : (a d : ℕ) → 0 < suc d / gcd a (suc d)
den-pos a d =
    pos_of_factor (suc d / gcd a (suc d)) (gcd a (suc d)) d
    (div-mul_cancel (gcd a (suc d)) (gcd-is a (suc d)).1)

-- the parts that are left when the greatest common divisor is divided away share no divisor
pub div_ℤ-lowest : (n : ℤ) (d : ℕ)
    → gcd (nat_abs (div_ℤ n (gcd (nat_abs n) (suc d)))) (suc d / gcd (nat_abs n) (suc d)) ≡ 1
div_ℤ-lowest n d = rw nat_abs-div_ℤ (gcd-parts (nat_abs n) (suc d) (zero-lt-suc _))
