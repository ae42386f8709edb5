-- The values of numbers: signs, powers of ten, and which fractions are short.
use Rattle.std.proofs.Common.{◌≡◌, ℕ, zero, suc, ◌+◌, ◌*◌, ◌-◌, ◌<◌, ◌≤◌, ◌^◌, ℤ, pos, nat_abs, ◌*ℤ◌, IsTrue, Bool, true, false, [], ◌∷◌, refl, sym, ap, ap₂, ◌∙◌, subst, lit<, arith, mul-pos, not-le_of_lt, add-one, mul-one, one-mul, Option}
use Rattle.std.proofs.Math.Nat.{one-le-pow, mul-le-mul_left}
use Rattle.std.proofs.lemmas.Int.{unsigned_abs-mul}
use Rattle.std.proofs.lemmas.Nat.{pow-add}
use Rattle.std.proofs.lemmas.Nat.Gcd.{le_of_dvd}
use native.Mathlib.Nat.{dvd-mul_left}
use Rattle.std.specs.Int.{◌∣◌}
use Rattle.frac128.proofs.ProductSizeLemmas.{with_sign-mul}
use Rattle.rational.proofs.IntegerRing.{integer_ring}
use Rattle.rational.proofs.Ring.{ring, num, ◌:*◌, A, B, C, D}
use Rattle.rational.proofs.GcdLemmas.{gauss}
use Rattle.rational.specs.Rational.{ℚ, frac, whole, ◌*ℚ◌}
use Rattle.rational.proofs.DenominatorLemmas.{den_pos, lowest}
use Rattle.rational.proofs.FractionLemmas.{StandsFor-frac, equal_by, cancel_pos, frac_self}
use Rattle.rational.proofs.PartLemmas.{whole-num, frac-mul, frac-scale}
use Rattle.frac128.specs.Fraction.{with_sign, PartFits}
use Rattle.frac128.proofs.PartLemmas.{kept, kept-part}
use Rattle.frac128.proofs.ReductionLemmas.{nat_abs-with_sign}
use Rattle.frac128.specs.Short.{IsShort}
use Rattle.game_text.specs.Numbers.{ten_to}
use Rattle.game_text.specs.NumberReading.{GivesShort}

-- a power of ten is positive
pub ten_pos : (k : ℕ) → 0 < 10 ^ k
ten_pos k = omega (arith, one-le-pow k 10 (lit< tt))

-- ---- fractions over a multiple
-- a fraction over a multiple is the fraction in lowest terms over that multiple
pub over_again : (n : ℤ) (d j : ℕ) → 0 < d → 0 < j → frac (frac n d).num ((frac n d).den * j) ≡ frac n (d * j)
over_again n d j p q =
    let s = StandsFor-frac n d p in
    equal_by (frac (frac n d).num ((frac n d).den * j)) (frac n (d * j)) (frac n d).num n ((frac n d).den * j) (d * j) (StandsFor-frac _ _ (mul-pos (den_pos (frac n d)) q)) (StandsFor-frac n (d * j) (mul-pos p q))
    (ring integer_ring ((frac n d).num ∷ pos d ∷ pos j ∷ []) (A :* (B :* C)) (A :* B :* C) refl ∙ ap (λ x. x *ℤ pos j) s.cross ∙ ring integer_ring (n ∷ pos (frac n d).den ∷ pos j ∷ []) (A :* B :* C) (A :* (B :* C)) refl)

-- the cross products of a fraction and of the one over a multiple
den_cross : (n : ℤ) (d k : ℕ) → 0 < d → 0 < k → (frac n d).num *ℤ pos (frac n (d * k)).den ≡ ((frac n (d * k)).num *ℤ pos k) *ℤ pos (frac n d).den
den_cross n d k p q =
    let a = StandsFor-frac n d p in
    let b = StandsFor-frac n (d * k) (mul-pos p q) in
    cancel_pos _ _ d p
    (ring integer_ring ((frac n d).num ∷ pos (frac n (d * k)).den ∷ pos d ∷ []) (A :* B :* C) (A :* C :* B) refl
    ∙ ap (λ x. x *ℤ pos (frac n (d * k)).den) a.cross
    ∙ ring integer_ring (n ∷ pos (frac n d).den ∷ pos (frac n (d * k)).den ∷ []) (A :* B :* C) (A :* C :* B) refl
    ∙ ap (λ x. x *ℤ pos (frac n d).den) (sym b.cross)
    ∙ ring integer_ring ((frac n (d * k)).num ∷ pos d ∷ pos k ∷ pos (frac n d).den ∷ []) (A :* (B :* C) :* D) (A :* C :* D :* B) refl)

-- the denominator over a multiple is no smaller
den_grows : (n : ℤ) (d k : ℕ) → 0 < d → 0 < k → (frac n d).den ≤ (frac n (d * k)).den
den_grows n d k p q =
    let a = frac n d in
    let b = frac n (d * k) in
    let sizes : nat_abs a.num * b.den ≡ nat_abs (b.num *ℤ pos k) * a.den = sym (unsigned_abs-mul a.num (pos b.den)) ∙ ap nat_abs (den_cross n d k p q) ∙ unsigned_abs-mul (b.num *ℤ pos k) (pos a.den) in
    le_of_dvd (den_pos b) (gauss (nat_abs a.num) a.den b.den (lowest a) (subst (λ x. a.den ∣ x) (sym sizes) (dvd-mul_left a.den (nat_abs (b.num *ℤ pos k)))))

-- a power of ten makes no size smaller
pub raised_long : (n k : ℕ) → 2 ^ 63 ≤ n → 2 ^ 63 ≤ n * 10 ^ k
raised_long n k h = omega (arith, mul-le-mul_left n (one-le-pow k 10 (lit< tt)))

-- a denominator that was tested
pub tested_long : (r : Bool) (n : ℕ) (z : ℤ) → z ≡ pos n → r ≡ false → (nat_abs z < 2 ^ 63 → IsTrue r) → 2 ^ 63 ≤ n
tested_long r n z e f h =
    let short : n < 2 ^ 63 → IsTrue r = λ lt. h (subst (λ x. nat_abs x < 2 ^ 63) (sym e) lt) in
    grind arith

-- ---- a fraction divided step by step
-- after a step a power is left
pub step_on : (a b : ℚ) (left step : ℕ) → step ≤ left → b ≡ frac a.num (a.den * 10 ^ step) → frac b.num (b.den * 10 ^ (left - step)) ≡ frac a.num (a.den * 10 ^ left)
step_on a b left step h e =
    let split : 10 ^ step * 10 ^ (left - step) ≡ 10 ^ left = sym (pow-add 10 step (left - step)) ∙ ap (λ k. 10 ^ k) (omega arith) in
    let whole_step : a.den * 10 ^ step * 10 ^ (left - step) ≡ a.den * 10 ^ left = omega (arith, ap (λ x. a.den * x) split) in
    ap (λ (x : ℚ). frac x.num (x.den * 10 ^ (left - step))) e
    ∙ over_again a.num (a.den * 10 ^ step) (10 ^ (left - step)) (mul-pos (den_pos a) (ten_pos step)) (ten_pos (left - step))
    ∙ ap (λ d. frac a.num d) whole_step

-- after the last step none is left
pub step_end : (a : ℚ) (left : ℕ) → left ≤ 0 → a ≡ frac a.num (a.den * 10 ^ left)
step_end a left h =
    let none : left ≡ 0 = omega arith in
    sym (ap (λ k. frac a.num (a.den * 10 ^ k)) none ∙ ap (λ d. frac a.num d) (mul-one a.den) ∙ frac_self a)

-- ---- what is not short
-- a denominator that is not short stays so over a multiple
pub long_den : (a : ℚ) (k : ℕ) → 0 < k → 2 ^ 63 ≤ a.den → ¬ (IsShort (frac a.num (a.den * k)))
long_den a k q h s =
    let grows : (frac a.num a.den).den ≤ (frac a.num (a.den * k)).den = den_grows a.num a.den k (den_pos a) q in
    let same : (frac a.num a.den).den ≡ a.den = ap (λ (x : ℚ). x.den) (frac_self a) in
    let short : (frac a.num (a.den * k)).den < 2 ^ 63 = s.den in
    omega arith

-- a whole number that is not short
pub long_whole : (s : Bool) (n : ℕ) → 2 ^ 63 ≤ n → ¬ (IsShort (whole (with_sign s n)))
long_whole s n h short =
    not-le_of_lt (subst (λ x. x < 2 ^ 63) (ap nat_abs (whole-num (with_sign s n)) ∙ nat_abs-with_sign s n) short.num) h

-- an answer at one rational is one at an equal rational
pub short_at : (q r : ℚ) (answer : Option ℚ) → q ≡ r → GivesShort q answer → GivesShort r answer
short_at q r answer e h = subst (λ x. GivesShort x answer) e h

-- ---- powers of ten
-- ten to a power that is not positive
ten_down : (e : ℕ) → ten_to (with_sign true e) ≡ frac (pos 1) (10 ^ e)
ten_down zero = refl
ten_down (suc e) = ap (λ k. frac (pos 1) (10 ^ k)) (add-one e)

-- a number with digits after the point over a power of ten
pub falls-is : (s : Bool) (n l e : ℕ) → frac (whole (with_sign s n)).num ((whole (with_sign s n)).den * 10 ^ (l + e)) ≡ frac (with_sign s n) (10 ^ l) *ℚ ten_to (with_sign true e)
falls-is s n l e =
    over_again (with_sign s n) 1 (10 ^ (l + e)) (lit< tt) (ten_pos (l + e))
    ∙ ap₂ frac (sym (ring integer_ring (with_sign s n ∷ []) (A :* num 1) A refl)) (one-mul (10 ^ (l + e)) ∙ pow-add 10 l e)
    ∙ sym (frac-mul (with_sign s n) (pos 1) (10 ^ l) (10 ^ e) (ten_pos l) (ten_pos e))
    ∙ ap (λ x. frac (with_sign s n) (10 ^ l) *ℚ x) (sym (ten_down e))

-- a number with digits after the point times a power of ten
rises : (s : Bool) (n l e : ℕ) → frac (with_sign s n) (10 ^ l) *ℚ ten_to (with_sign false e) ≡ frac (with_sign s (n * 10 ^ e)) (10 ^ l)
rises s n l e =
    frac-mul (with_sign s n) (pos (10 ^ e)) (10 ^ l) 1 (ten_pos l) (lit< tt) ∙ ap₂ frac (with_sign-mul s n (10 ^ e)) (mul-one (10 ^ l))

-- a factor of the numerator and of the denominator
pub common_factor : (s : Bool) (n d k : ℕ) → 0 < d → 0 < k → frac (with_sign s (n * k)) (d * k) ≡ frac (with_sign s n) d
common_factor s n d k p q = ap (λ x. frac x (d * k)) (sym (with_sign-mul s n k)) ∙ frac-scale (with_sign s n) d k p q

-- the same, where the power is no more than the digits
pub rises_within : (s : Bool) (n l e : ℕ) → e ≤ l → frac (whole (with_sign s n)).num ((whole (with_sign s n)).den * 10 ^ (l - e)) ≡ frac (with_sign s n) (10 ^ l) *ℚ ten_to (with_sign false e)
rises_within s n l e h =
    let split : 10 ^ (l - e) * 10 ^ e ≡ 10 ^ l = sym (pow-add 10 (l - e) e) ∙ ap (λ k. 10 ^ k) (omega arith) in
    over_again (with_sign s n) 1 (10 ^ (l - e)) (lit< tt) (ten_pos (l - e))
    ∙ ap (λ d. frac (with_sign s n) d) (one-mul (10 ^ (l - e)))
    ∙ sym (common_factor s n (10 ^ (l - e)) (10 ^ e) (ten_pos (l - e)) (ten_pos e))
    ∙ ap (λ d. frac (with_sign s (n * 10 ^ e)) d) split
    ∙ sym (rises s n l e)

-- and where it is more
pub rises_beyond : (s : Bool) (n l e : ℕ) → l ≤ e → whole (with_sign s (n * 10 ^ (e - l))) ≡ frac (with_sign s n) (10 ^ l) *ℚ ten_to (with_sign false e)
rises_beyond s n l e h =
    let split : n * 10 ^ (e - l) * 10 ^ l ≡ n * 10 ^ e = let p : 10 ^ (e - l) * 10 ^ l ≡ 10 ^ e = sym (pow-add 10 (e - l) l) ∙ ap (λ k. 10 ^ k) (omega arith) in omega (arith, ap (λ x. n * x) p) in
    sym (common_factor s (n * 10 ^ (e - l)) 1 (10 ^ l) (lit< tt) (ten_pos l))
    ∙ ap₂ (λ x d. frac (with_sign s x) d) split (one-mul (10 ^ l))
    ∙ sym (rises s n l e)

-- ---- answers
-- a whole number that the code made of a size
made : (s : Bool) (n : ℕ) (a : ℚ) (z : ℤ) → a ≡ whole (kept z) → z ≡ with_sign s n → PartFits z → a ≡ whole (with_sign s n)
made s n a z e is fits = e ∙ ap (λ x. whole x) (kept-part z z refl fits ∙ is)

-- what is answered for a negative exponent
pub falls_answer : (s f : Bool) (n l e : ℕ) (a : ℚ) (z : ℤ) (answer : Option ℚ) → f ≡ true → a ≡ whole (kept z) → z ≡ with_sign s n → PartFits z → GivesShort (frac a.num (a.den * 10 ^ (l + e))) answer → GivesShort (frac (with_sign s n) (10 ^ l) *ℚ ten_to (with_sign f e)) answer
falls_answer s f n l e a z answer t m is fits h =
    short_at _ _ answer (ap (λ (x : ℚ). frac x.num (x.den * 10 ^ (l + e))) (made s n a z m is fits) ∙ falls-is s n l e ∙ ap (λ b. frac (with_sign s n) (10 ^ l) *ℚ ten_to (with_sign b e)) (sym t)) h

-- what is answered for an exponent up to the number of places
pub within_answer : (s f : Bool) (n l e : ℕ) (a : ℚ) (z : ℤ) (answer : Option ℚ) → f ≡ false → e ≤ l → a ≡ whole (kept z) → z ≡ with_sign s n → PartFits z → GivesShort (frac a.num (a.den * 10 ^ (l - e))) answer → GivesShort (frac (with_sign s n) (10 ^ l) *ℚ ten_to (with_sign f e)) answer
within_answer s f n l e a z answer t le m is fits h =
    short_at _ _ answer (ap (λ (x : ℚ). frac x.num (x.den * 10 ^ (l - e))) (made s n a z m is fits) ∙ rises_within s n l e le ∙ ap (λ b. frac (with_sign s n) (10 ^ l) *ℚ ten_to (with_sign b e)) (sym t)) h

-- what is answered for a larger exponent
pub beyond_answer : (s f : Bool) (n l e : ℕ) (answer : Option ℚ) → f ≡ false → l ≤ e → GivesShort (whole (with_sign s (n * 10 ^ (e - l)))) answer → GivesShort (frac (with_sign s n) (10 ^ l) *ℚ ten_to (with_sign f e)) answer
beyond_answer s f n l e answer t le h =
    short_at _ _ answer (rises_beyond s n l e le ∙ ap (λ b. frac (with_sign s n) (10 ^ l) *ℚ ten_to (with_sign b e)) (sym t)) h
