-- products and quotients of two rationals, by the signs and sizes of their parts
use Rattle.std.proofs.Common.{ℕ, zero, suc, ◌≡◌, ◌≢◌, ◌*◌, ◌<◌, ℤ, pos, negsuc, neg_ℤ, nat_abs, ◌*ℤ◌, Bool, true, false, not, int_lt, arith, refl, sym, ap, ap₂, ◌∙◌, subst, mul-pos, mul-zero, pos_of_ne-zero, Option, Some, None, MatchOption}
use mathlib.Core.Bool.{beq}
use Rattle.rational.specs.Gcd.{gcd}
use Rattle.rational.specs.Rational.{ℚ, ◌*ℚ◌, inv_ℚ, zero_ℚ, frac}
use Rattle.rational.proofs.DenominatorLemmas.{den_pos, lowest}
use Rattle.rational.proofs.FractionLemmas.{StandsFor, StandsFor-self, StandsFor-frac, StandsFor-mul, equal_by}
use Rattle.frac128.specs.Fraction.{Fits, with_sign}
use Rattle.frac128.specs.Steps.{MulFits, DivFits}
use Rattle.frac128.proofs.PartLemmas.{kept, kept-part, num_size, den_size, zero_by_num}
use Rattle.frac128.proofs.CoprimeLemmas.{coprime-swap}
use Rattle.frac128.proofs.ReductionLemmas.{answer_at, ltb-zero}
use Rattle.frac128.proofs.SumSizeLemmas.{signed_size}

-- whether one of two numbers is negative, and not the other
abbrev pub differ : ℤ → ℤ → Bool
differ n m = not (beq (int_lt n (pos 0)) (int_lt m (pos 0)))

-- the sign and the size of a product
sign_times : (n : ℤ) (t : Bool) (k : ℕ) → n *ℤ with_sign t k ≡ with_sign (not (beq (int_lt n (pos 0)) t)) (nat_abs n * k)
sign_times (pos n) false k = rw (ltb-zero n) refl
sign_times (pos n) true zero = rw (ltb-zero n, mul-zero) refl
sign_times (pos n) true (suc k) = rw (ltb-zero n) refl
sign_times (negsuc n) false k = refl
sign_times (negsuc n) true zero = rw mul-zero refl
sign_times (negsuc n) true (suc k) = refl

-- a product by signs and sizes
pub product_is : (a b : ℚ) → frac (with_sign (differ a.num b.num) (nat_abs a.num * nat_abs b.num)) (a.den * b.den) ≡ a *ℚ b
unfolding ◌*ℚ◌
product_is a b =
    ap (λ x. frac x (a.den * b.den)) (sym (sign_times a.num (int_lt b.num (pos 0)) (nat_abs b.num)) ∙ ap (λ x. a.num *ℤ x) (signed_size b.num))

-- the inverse of a positive number
inv_pos : (b : ℚ) (n : ℕ) → b.num ≡ pos n → inv_ℚ b ≡ frac (pos b.den) n
unfolding inv_ℚ
inv_pos b n e = ap (λ (x : ℤ). elim x as (λ _. ℚ) [ pos m ↦ frac (pos b.den) m | negsuc m ↦ frac (neg_ℤ (pos b.den)) (suc m) ]) e

-- the inverse of a negative number
inv_neg : (b : ℚ) (n : ℕ) → b.num ≡ negsuc n → inv_ℚ b ≡ frac (neg_ℤ (pos b.den)) (suc n)
unfolding inv_ℚ
inv_neg b n e = ap (λ (x : ℤ). elim x as (λ _. ℚ) [ pos m ↦ frac (pos b.den) m | negsuc m ↦ frac (neg_ℤ (pos b.den)) (suc m) ]) e

-- an inverse has the parts exchanged, and the sign above
inverse_stands : (b : ℚ) (m : ℤ) → b.num ≡ m → 0 < nat_abs m → StandsFor (inv_ℚ b) (with_sign (int_lt m (pos 0)) b.den) (nat_abs m)
inverse_stands b (pos n) e h =
    rw (inv_pos b n e, ltb-zero n) (StandsFor-frac (pos b.den) n h)
inverse_stands b (negsuc n) e h = rw (inv_neg b n e) (StandsFor-frac (neg_ℤ (pos b.den)) (suc n) h)

-- a quotient by signs and sizes
pub quotient_is : (a b : ℚ) → 0 < nat_abs b.num → frac (with_sign (differ a.num b.num) (nat_abs a.num * b.den)) (a.den * nat_abs b.num) ≡ a *ℚ inv_ℚ b
quotient_is a b h =
    let t = int_lt b.num (pos 0) in
    let top = with_sign (differ a.num b.num) (nat_abs a.num * b.den) in
    let bottom = a.den * nat_abs b.num in
    equal_by (frac top bottom) (a *ℚ inv_ℚ b) top (a.num *ℤ with_sign t b.den) bottom bottom (StandsFor-frac top bottom (mul-pos (den_pos a) h)) (StandsFor-mul a (inv_ℚ b) a.num (with_sign t b.den) a.den (nat_abs b.num) (StandsFor-self a) (inverse_stands b b.num refl h)) (ap (λ x. x *ℤ pos bottom) (sym (sign_times a.num t b.den)))

-- only zero has size zero
size_zero : (n : ℤ) → nat_abs n ≡ 0 → n ≡ pos 0
size_zero (pos n) e = ap pos e
size_zero (negsuc n) e = absurd (omega (arith, e))

-- a numerator is not zero where the number is not
pub numerator_size_pos : (b : ℚ) → b ≢ zero_ℚ → 0 < nat_abs b.num
numerator_size_pos b h = pos_of_ne-zero (λ e. h (zero_by_num b (size_zero b.num e)))

-- the parts of a rational, as the code read them
pub record Read (q : ℚ) (n d : ℤ) (size den : ℕ) : Type 0 where
  pub fits : Fits q
  pub num_is : n ≡ q.num
  pub size_is : size ≡ nat_abs (kept n)
  pub den_is : d ≡ pos q.den
  pub den_size_is : den ≡ nat_abs (kept d)

-- the size of the numerator
read_size : (q : ℚ) (n d : ℤ) (size den : ℕ) → Read q n d size den → size ≡ nat_abs q.num
read_size q n d size den k = num_size q n size k.num_is k.fits k.size_is

-- the size of the denominator
read_den_size : (q : ℚ) (n d : ℤ) (size den : ℕ) → Read q n d size den → den ≡ q.den
read_den_size q n d size den k = den_size q d den k.den_is k.fits.den k.den_size_is

-- the sign of a product or a quotient
read_sign : (a b : ℚ) (n m : ℤ) → n ≡ a.num → m ≡ b.num → Fits a → Fits b → differ (kept n) (kept m) ≡ differ a.num b.num
read_sign a b n m e f g h = ap₂ differ (kept-part n a.num e g.num) (kept-part m b.num f h.num)

-- what fits is the value
at_value : (o : Option ℚ) (r : ℚ) → MatchOption o (¬ (Fits r)) (λ f. (f ≡ r) × Fits f) → MatchOption o (¬ (Fits r)) (λ f. (f ≡ r) × Fits r)
at_value None r h = h
at_value (Some f) r h = (h.0, subst Fits h.0 h.1)

-- what an answer for the sizes says of the product
pub product_answer : (a b : ℚ) (n d m e : ℤ) (size den other_size other_den : ℕ) (o : Option ℚ) → Read a n d size den → Read b m e other_size other_den → MatchOption o (¬ (Fits (frac (with_sign (differ (kept n) (kept m)) (size * other_size)) (den * other_den)))) (λ f. (f ≡ frac (with_sign (differ (kept n) (kept m)) (size * other_size)) (den * other_den)) × Fits f) → MatchOption o (¬ (MulFits a b)) (λ f. (f ≡ a *ℚ b) × MulFits a b)
product_answer a b n d m e size den other_size other_den o k l h =
    at_value o (a *ℚ b) (answer_at o (frac (with_sign (differ (kept n) (kept m)) (size * other_size)) (den * other_den)) (a *ℚ b)
    (ap₂ frac (ap₂ with_sign (read_sign a b n m k.num_is l.num_is k.fits l.fits) (ap₂ ◌*◌ (read_size a n d size den k) (read_size b m e other_size other_den l))) (ap₂ ◌*◌ (read_den_size a n d size den k) (read_den_size b m e other_size other_den l)) ∙ product_is a b)
    h)

-- what an answer for the sizes says of the quotient
pub quotient_answer : (a b : ℚ) (n d m e : ℤ) (size den other_size other_den : ℕ) (o : Option ℚ) → b ≢ zero_ℚ → Read a n d size den → Read b m e other_size other_den → MatchOption o (¬ (Fits (frac (with_sign (differ (kept n) (kept m)) (size * other_den)) (den * other_size)))) (λ f. (f ≡ frac (with_sign (differ (kept n) (kept m)) (size * other_den)) (den * other_size)) × Fits f) → MatchOption o (¬ (DivFits a b)) (λ f. (f ≡ a *ℚ inv_ℚ b) × DivFits a b)
quotient_answer a b n d m e size den other_size other_den o nonzero k l h =
    at_value o (a *ℚ inv_ℚ b) (answer_at o (frac (with_sign (differ (kept n) (kept m)) (size * other_den)) (den * other_size)) (a *ℚ inv_ℚ b)
    (ap₂ frac (ap₂ with_sign (read_sign a b n m k.num_is l.num_is k.fits l.fits) (ap₂ ◌*◌ (read_size a n d size den k) (read_den_size b m e other_size other_den l))) (ap₂ ◌*◌ (read_den_size a n d size den k) (read_size b m e other_size other_den l)) ∙ quotient_is a b (numerator_size_pos b nonzero))
    h)

-- the numerator of a divisor is not zero
pub divisor_size_pos : (b : ℚ) (m e : ℤ) (size den : ℕ) → b ≢ zero_ℚ → Read b m e size den → 0 < size
divisor_size_pos b m e size den h k = subst (λ x. 0 < x) (sym (read_size b m e size den k)) (numerator_size_pos b h)

-- the parts of a divisor share nothing
pub divisor_lowest : (b : ℚ) (m e : ℤ) (size den : ℕ) → Read b m e size den → gcd den size ≡ 1
divisor_lowest b m e size den k =
    ap₂ gcd (read_den_size b m e size den k) (read_size b m e size den k) ∙ coprime-swap (nat_abs b.num) b.den (lowest b)
