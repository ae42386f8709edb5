-- What the numerator and the denominator of a rational tell of it.
use Rattle.std.proofs.Common.{ℕ, zero, suc, ◌<◌, ◌≤◌, ◌*◌, ◌≡◌, ◌↔◌, ℤ, pos, negsuc, neg_ℤ, nat_abs, ◌+ℤ◌, ◌*ℤ◌, ◌≤ℤ◌, ◌<ℤ◌, [], ◌∷◌, refl, sym, ap, ◌∙◌, subst, lit<, mul-pos, arith}
use Rattle.std.proofs.lemmas.Int.{ints}
use Rattle.std.proofs.Math.Nat.{not-suc-le-zero, div-le_self}
use Rattle.rational.specs.LowestTerms.{nat_abs-div_ℤ}
use Rattle.rational.specs.Gcd.{gcd}
use Rattle.rational.specs.Rational.{ℚ, frac, whole, ◌+ℚ◌, ◌*ℚ◌, neg_ℚ, zero_ℚ, ◌≤ℚ◌, ◌<ℚ◌}
use Rattle.rational.proofs.DenominatorLemmas.{den_pos, lowest}
use Rattle.rational.proofs.IntegerRing.{integer_ring}
use Rattle.rational.proofs.FractionLemmas.{equal_by_parts, StandsFor, StandsFor-self, StandsFor-also, StandsFor-frac, StandsFor-add, StandsFor-mul, StandsFor-neg, equal_by, frac-lowest}
use Rattle.rational.proofs.OrderLemmas.{le_by, by_le, lt_by, by_lt, eq_by, by_eq}
use Rattle.rational.proofs.Ring.{ring, num, ◌:+◌, ◌:*◌, A, B, C}
use Rattle.rational.proofs.Linear.{zero-over, StandsFor-whole}
use Rattle.std.specs.Int.{int_signum}

-- ---- whole numbers
pub gcd-one : (a : ℕ) → gcd a 1 ≡ 1
unfolding gcd
gcd-one a = refl

-- the numerator of a whole number is that number
pub whole-num : (n : ℤ) → (whole n).num ≡ n
whole-num n = (frac-lowest n 1 (lit< tt) (gcd-one (nat_abs n))).0

-- the denominator of a whole number is 1
pub whole-den : (n : ℤ) → (whole n).den ≡ 1
whole-den n = (frac-lowest n 1 (lit< tt) (gcd-one (nat_abs n))).1

-- a number with the denominator 1 is whole
pub whole-own_num : (a : ℚ) → a.den ≡ 1 → whole a.num ≡ a
whole-own_num a e = equal_by_parts (whole a.num) a (whole-num a.num) (whole-den a.num ∙ sym e)

-- a sum of whole numbers
pub whole-add : (m n : ℤ) → whole (m +ℤ n) ≡ whole m +ℚ whole n
whole-add m n =
    equal_by (whole (m +ℤ n)) (whole m +ℚ whole n) (m +ℤ n) ((m *ℤ pos 1) +ℤ (n *ℤ pos 1)) 1 (1 * 1) (StandsFor-whole (m +ℤ n)) (StandsFor-add (whole m) (whole n) m n 1 1 (StandsFor-whole m) (StandsFor-whole n))
    (ring integer_ring (m ∷ n ∷ []) ((A :+ B) :* (num 1 :* num 1)) ((A :* num 1 :+ B :* num 1) :* num 1) refl)

-- a product of whole numbers
pub whole-mul : (m n : ℤ) → whole (m *ℤ n) ≡ whole m *ℚ whole n
whole-mul m n =
    equal_by (whole (m *ℤ n)) (whole m *ℚ whole n) (m *ℤ n) (m *ℤ n) 1 (1 * 1) (StandsFor-whole (m *ℤ n)) (StandsFor-mul (whole m) (whole n) m n 1 1 (StandsFor-whole m) (StandsFor-whole n)) refl

-- a negated whole number
pub whole-neg : (n : ℤ) → whole (neg_ℤ n) ≡ neg_ℚ (whole n)
whole-neg n =
    equal_by (whole (neg_ℤ n)) (neg_ℚ (whole n)) (neg_ℤ n) (neg_ℤ n) 1 1 (StandsFor-whole (neg_ℤ n)) (StandsFor-neg (whole n) n 1 (StandsFor-whole n)) refl

-- the same for the strict order
pub whole-lt : (m n : ℤ) → (whole m <ℚ whole n) ↔ (m <ℤ n)
whole-lt m n = (by_lt (whole m) (whole n) m n 1 (StandsFor-whole m) (StandsFor-whole n), lt_by (whole m) (whole n) m n 1 (StandsFor-whole m) (StandsFor-whole n))

-- equal whole numbers are equal integers
pub whole-eq : (m n : ℤ) → (whole m ≡ whole n) ↔ (m ≡ n)
whole-eq m n = (by_eq (whole m) (whole n) m n 1 (StandsFor-whole m) (StandsFor-whole n), λ e. ap (λ x. whole x) e)

-- ---- signs
zero-is : (a : ℚ) → StandsFor zero_ℚ (pos 0) a.den
zero-is a = zero-over a.den (den_pos a)

-- a number is not negative exactly where its numerator is not
pub nonneg-num : (a : ℚ) → (zero_ℚ ≤ℚ a) ↔ (pos 0 ≤ℤ a.num)
nonneg-num a = (by_le zero_ℚ a (pos 0) a.num a.den (zero-is a) (StandsFor-self a), le_by zero_ℚ a (pos 0) a.num a.den (zero-is a) (StandsFor-self a))

-- a number is positive exactly where its numerator is
pub pos-num : (a : ℚ) → (zero_ℚ <ℚ a) ↔ (pos 0 <ℤ a.num)
pos-num a = (by_lt zero_ℚ a (pos 0) a.num a.den (zero-is a) (StandsFor-self a), lt_by zero_ℚ a (pos 0) a.num a.den (zero-is a) (StandsFor-self a))

-- a number is negative exactly where its numerator is
pub negative-num : (a : ℚ) → (a <ℚ zero_ℚ) ↔ (a.num <ℤ pos 0)
negative-num a = (by_lt a zero_ℚ a.num (pos 0) a.den (StandsFor-self a) (zero-is a), lt_by a zero_ℚ a.num (pos 0) a.den (StandsFor-self a) (zero-is a))

-- a number is 0 exactly where its numerator is
pub zero-num : (a : ℚ) → (a ≡ zero_ℚ) ↔ (a.num ≡ pos 0)
zero-num a = (by_eq a zero_ℚ a.num (pos 0) a.den (StandsFor-self a) (zero-is a), eq_by a zero_ℚ a.num (pos 0) a.den (StandsFor-self a) (zero-is a))

-- ---- sizes
-- the size of a positive number is the number
pub pos_nat_abs : (d : ℤ) → pos 0 <ℤ d → pos (nat_abs d) ≡ d
pos_nat_abs (pos n) h = refl
pos_nat_abs (negsuc n) h = absurd (omega (arith, ints))

-- and is positive
pub pos_abs : (d : ℤ) → pos 0 <ℤ d → 0 < nat_abs d
pos_abs (pos n) h = omega (arith, ints)
pos_abs (negsuc n) h = absurd (omega (arith, ints))

-- a numerator in lowest terms is no larger
pub frac_num_size : (t : ℤ) (d : ℕ) → 0 < d → nat_abs (frac t d).num ≤ nat_abs t
unfolding frac
frac_num_size t zero h = absurd (not-suc-le-zero h)
frac_num_size t (suc d) h =
    subst (λ x. x ≤ nat_abs t) (sym (nat_abs-div_ℤ t (gcd (nat_abs t) (suc d)))) (div-le_self (nat_abs t) (gcd (nat_abs t) (suc d)))

-- ---- negation
pub abs-neg : (n : ℤ) → nat_abs (neg_ℤ n) ≡ nat_abs n
abs-neg (pos zero) = refl
abs-neg (pos (suc n)) = refl
abs-neg (negsuc n) = refl

pub neg-parts : (a : ℚ) → ((neg_ℚ a).num ≡ neg_ℤ a.num) × ((neg_ℚ a).den ≡ a.den)
unfolding neg_ℚ
neg-parts a = frac-lowest (neg_ℤ a.num) a.den (den_pos a) (ap (λ x. gcd x a.den) (abs-neg a.num) ∙ lowest a)

-- ---- cross products
over_left : (m : ℤ) (d e : ℕ) → 0 < d → 0 < e → StandsFor (frac m d) (m *ℤ pos e) (d * e)
over_left m d e p q =
    StandsFor-also (frac m d) m (m *ℤ pos e) d (d * e) (StandsFor-frac m d p) (mul-pos p q) (ring integer_ring (m ∷ pos d ∷ pos e ∷ []) (A :* (B :* C)) (A :* C :* B) refl)

over_right : (n : ℤ) (d e : ℕ) → 0 < d → 0 < e → StandsFor (frac n e) (n *ℤ pos d) (d * e)
over_right n d e p q =
    StandsFor-also (frac n e) n (n *ℤ pos d) e (d * e) (StandsFor-frac n e q) (mul-pos p q) (ring integer_ring (n ∷ pos d ∷ pos e ∷ []) (A :* (B :* C)) (A :* B :* C) refl)

-- the same of any two fractions
pub frac-eq : (m n : ℤ) (d e : ℕ) → 0 < d → 0 < e → (frac m d ≡ frac n e) ↔ (m *ℤ pos e ≡ n *ℤ pos d)
frac-eq m n d e p q = (by_eq (frac m d) (frac n e) _ _ (d * e) (over_left m d e p q) (over_right n d e p q), equal_by (frac m d) (frac n e) m n d e (StandsFor-frac m d p) (StandsFor-frac n e q))

-- fractions are in the order of their cross products
pub frac-le : (m n : ℤ) (d e : ℕ) → 0 < d → 0 < e → (frac m d ≤ℚ frac n e) ↔ ((m *ℤ pos e) ≤ℤ (n *ℤ pos d))
frac-le m n d e p q = (by_le (frac m d) (frac n e) _ _ (d * e) (over_left m d e p q) (over_right n d e p q), le_by (frac m d) (frac n e) _ _ (d * e) (over_left m d e p q) (over_right n d e p q))

-- the same for the strict order
pub frac-lt : (m n : ℤ) (d e : ℕ) → 0 < d → 0 < e → (frac m d <ℚ frac n e) ↔ ((m *ℤ pos e) <ℤ (n *ℤ pos d))
frac-lt m n d e p q = (by_lt (frac m d) (frac n e) _ _ (d * e) (over_left m d e p q) (over_right n d e p q), lt_by (frac m d) (frac n e) _ _ (d * e) (over_left m d e p q) (over_right n d e p q))

-- a common factor of numerator and denominator does not matter
pub frac-scale : (n : ℤ) (d k : ℕ) → 0 < d → 0 < k → frac (n *ℤ pos k) (d * k) ≡ frac n d
frac-scale n d k p q =
    equal_by (frac (n *ℤ pos k) (d * k)) (frac n d) (n *ℤ pos k) n (d * k) d (StandsFor-frac _ _ (mul-pos p q)) (StandsFor-frac n d p) (ring integer_ring (n ∷ pos k ∷ pos d ∷ []) (A :* B :* C) (A :* (C :* B)) refl)

-- a sum of fractions
pub frac-add : (m n : ℤ) (d e : ℕ) → 0 < d → 0 < e → frac m d +ℚ frac n e ≡ frac ((m *ℤ pos e) +ℤ (n *ℤ pos d)) (d * e)
frac-add m n d e p q =
    equal_by (frac m d +ℚ frac n e) (frac ((m *ℤ pos e) +ℤ (n *ℤ pos d)) (d * e)) _ _ (d * e) (d * e) (StandsFor-add (frac m d) (frac n e) m n d e (StandsFor-frac m d p) (StandsFor-frac n e q)) (StandsFor-frac _ _ (mul-pos p q)) refl

-- a product of fractions
pub frac-mul : (m n : ℤ) (d e : ℕ) → 0 < d → 0 < e → frac m d *ℚ frac n e ≡ frac (m *ℤ n) (d * e)
frac-mul m n d e p q =
    equal_by (frac m d *ℚ frac n e) (frac (m *ℤ n) (d * e)) _ _ (d * e) (d * e) (StandsFor-mul (frac m d) (frac n e) m n d e (StandsFor-frac m d p) (StandsFor-frac n e q)) (StandsFor-frac _ _ (mul-pos p q)) refl

-- a negated fraction
pub frac-neg : (n : ℤ) (d : ℕ) → 0 < d → neg_ℚ (frac n d) ≡ frac (neg_ℤ n) d
frac-neg n d p =
    equal_by (neg_ℚ (frac n d)) (frac (neg_ℤ n) d) _ _ d d (StandsFor-neg (frac n d) n d (StandsFor-frac n d p)) (StandsFor-frac _ _ p) refl

-- an integer whose sign is not negative is not negative
pub sign_nonneg : (z : ℤ) → pos 0 ≤ℤ int_signum z → pos 0 ≤ℤ z
sign_nonneg (pos n) h = omega (arith, ints)
sign_nonneg (negsuc n) h = absurd (omega (arith, ints))
