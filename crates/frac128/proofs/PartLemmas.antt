-- the fields of a fraction and the parts of its value
use Rattle.std.proofs.Common.{ℕ, ◌≡◌, ◌<◌, ◌^◌, ℤ, pos, negsuc, neg_ℤ, nat_abs, ◌-ℤ◌, arith, refl, sym, ap, ap₂, ◌∙◌, subst, SFits, to_z, of_z, IsTrue, eqb}
use mir.Syntax.{w128}
use Rattle.std.proofs.lemmas.Int.{ints, to_z-of_z, to_z_pos, fits_signed_from_abs}
use Rattle.std.proofs.lemmas.Bool.Decides.{Decides-eqb}
use Rattle.rational.proofs.PartLemmas.{abs-neg, neg-parts}
use native.Mathlib.Nat.{dvd_antisymm, dvd-zero, dvd_refl}
use Rattle.rational.specs.Gcd.{gcd}
use Rattle.rational.specs.GcdLaws.{gcd-is}
use Rattle.rational.specs.Rational.{ℚ, frac, zero_ℚ, neg_ℚ}
use Rattle.rational.proofs.DenominatorLemmas.{den_pos, lowest}
use Rattle.rational.proofs.FractionLemmas.{frac-lowest, equal_by_parts}
use Rattle.frac128.specs.Fraction.{value_of, PartFits, Fits, InLowestTerms, fields_of, fields_of_value}
use Rattle.frac128.specs.declared.frac.Frac.TheInside.{Inside}

-- as the code has a number that it stored
abbrev pub kept : ℤ → ℤ
kept n = to_z w128 (of_z w128 n)

-- a stored part is read as it was
pub kept-part : (n m : ℤ) → n ≡ m → PartFits m → kept n ≡ m
kept-part n m e h = ap kept e ∙ to_z-of_z w128 m (fits_signed_from_abs w128 m h)

-- the size of a denominator that the code read
pub den_size : (q : ℚ) (d : ℤ) (k : ℕ) → d ≡ pos q.den → PartFits (pos q.den) → k ≡ nat_abs (kept d) → k ≡ q.den
den_size q d k e h is = is ∙ ap nat_abs (kept-part d (pos q.den) e h)

-- the size of a numerator that the code read
pub num_size : (q : ℚ) (n : ℤ) (k : ℕ) → n ≡ q.num → Fits q → k ≡ nat_abs (kept n) → k ≡ nat_abs q.num
num_size q n k e h is = is ∙ ap nat_abs (kept-part n q.num e h.num)

-- the size of a number that the code read
pub num_kept : (n : ℤ) (k : ℕ) → SFits w128 n → k ≡ nat_abs (kept n) → k ≡ nat_abs n
num_kept n k f is = is ∙ ap nat_abs (to_z-of_z w128 n f)

-- the size of a denominator is positive
pub size_positive : (q : ℚ) (k : ℕ) → k ≡ q.den → 0 < k
size_positive q k e = rw e (den_pos q)

-- a fraction of stored fields
stored : (n : ℤ) (d : ℕ) → SFits w128 n → d < 2 ^ 127 → frac (to_z w128 (of_z w128 n)) (nat_abs (to_z w128 d)) ≡ frac n d
stored n d f h = ap₂ (λ x y. frac x (nat_abs y)) (to_z-of_z w128 n f) (to_z_pos w128 d h)

-- a fraction that is made of parts in lowest terms has these parts
pub stored_parts : (n : ℤ) (d : ℕ) → SFits w128 n → d < 2 ^ 127 → 0 < d → gcd (nat_abs n) d ≡ 1 → ((frac (to_z w128 (of_z w128 n)) (nat_abs (to_z w128 d))).num ≡ n) × ((frac (to_z w128 (of_z w128 n)) (nat_abs (to_z w128 d))).den ≡ d)
stored_parts n d f h p e =
    let s = stored n d f h in
    let l = frac-lowest n d p e in
    (ap (λ (q : ℚ). q.num) s ∙ l.0, ap (λ (q : ℚ). q.den) s ∙ l.1)

-- the fields of a value are those that it was made of
fields-is : (a : Inside) (q : ℚ) → InLowestTerms a → value_of a ≡ q → fields_of q ≡ a
fields-is a q h v = ap fields_of (sym v) ∙ fields_of_value a h

-- what is read of a fraction's fields
pub read_num : (a : Inside) (q : ℚ) → InLowestTerms a → value_of a ≡ q → to_z w128 (of_z w128 a.num) ≡ q.num
read_num a q h v =
    to_z-of_z w128 a.num (fits_signed_from_abs w128 a.num h.num_fits) ∙ ap (λ (x : Inside). x.num) (sym (fields-is a q h v))

-- the same of the denominator
pub read_den : (a : Inside) (q : ℚ) → InLowestTerms a → value_of a ≡ q → to_z w128 (of_z w128 a.den) ≡ pos q.den
read_den a q h v =
    to_z-of_z w128 a.den (fits_signed_from_abs w128 a.den h.den_fits) ∙ ap (λ (x : Inside). x.den) (sym (fields-is a q h v))

-- the value of a fraction fits
pub read_fits : (a : Inside) (q : ℚ) → InLowestTerms a → value_of a ≡ q → Fits q
read_fits a q h v =
    let e = sym (fields-is a q h v) in
    record {
      num = subst PartFits (ap (λ (x : Inside). x.num) e) h.num_fits;
      den = subst PartFits (ap (λ (x : Inside). x.den) e) h.den_fits;
    }

pub zero-num : zero_ℚ.num ≡ pos 0
unfolding frac gcd
zero-num = refl

pub zero-den : zero_ℚ.den ≡ 1
unfolding frac gcd
zero-den = refl

-- zero shares all of a number
gcd-zero_left : (d : ℕ) → gcd 0 d ≡ d
gcd-zero_left d =
    dvd_antisymm (gcd-is 0 d).1 ((gcd-is 0 d).2 d (dvd-zero d) (dvd_refl d))

-- a rational is zero where its numerator is
pub zero_by_num : (q : ℚ) → q.num ≡ pos 0 → q ≡ zero_ℚ
zero_by_num q e =
    equal_by_parts q zero_ℚ (e ∙ sym zero-num) (sym (gcd-zero_left q.den) ∙ ap (λ n. gcd (nat_abs n) q.den) (sym e) ∙ lowest q ∙ sym zero-den)

-- only zero has the bits of zero
bits_zero : (n : ℤ) → nat_abs n < 2 ^ 127 → of_z w128 n ≡ 0 → n ≡ pos 0
bits_zero (pos n) h e = ap pos e
bits_zero (negsuc n) h e = absurd (omega (arith, e))

-- a fraction whose numerator is read as zero is zero
pub zero_read : (q : ℚ) (n : ℤ) → n ≡ q.num → Fits q → of_z w128 n ≡ 0 → q ≡ zero_ℚ
zero_read q n e h z = zero_by_num q (sym e ∙ bits_zero n (subst PartFits (sym e) h.num) z)

-- what the test of the numerator says
pub zero_test : (q : ℚ) (n : ℤ) → n ≡ q.num → Fits q → (IsTrue (eqb (of_z w128 n) 0) → q ≡ zero_ℚ) × (q ≡ zero_ℚ → IsTrue (eqb (of_z w128 n) 0))
zero_test q n e h =
    (λ t. zero_by_num q (sym e ∙ bits_zero n (subst PartFits (sym e) h.num) ((Decides-eqb (of_z w128 n) 0).0 t)), λ z. (Decides-eqb (of_z w128 n) 0).1 (ap (of_z w128) (e ∙ ap (λ (x : ℚ). x.num) z ∙ zero-num)))

-- zero less a number
zero-minus : (n : ℤ) → pos 0 -ℤ n ≡ neg_ℤ n
zero-minus n = omega (arith, ints)

-- the other sign fits 128 bits
neg_fits : (n : ℤ) → SFits w128 n → nat_abs n < 2 ^ 127 → SFits w128 (pos 0 -ℤ n)
neg_fits n f h = rw (zero-minus n) (fits_signed_from_abs w128 (neg_ℤ n) (subst (λ x. x < 2 ^ 127) (sym (abs-neg n)) h))

-- the fraction with the other sign
pub neg_value : (q r : ℚ) (n d : ℤ) (k : ℕ) → Fits q → n ≡ q.num → d ≡ pos q.den → k ≡ nat_abs (to_z w128 (of_z w128 d)) → r.num ≡ to_z w128 (of_z w128 (pos 0 -ℤ to_z w128 (of_z w128 n))) → r.den ≡ k → r ≡ neg_ℚ q
neg_value q r n d k fits en ed ek rn rd =
    let h : nat_abs n < 2 ^ 127 = subst PartFits (sym en) fits.num in
    let g : nat_abs d < 2 ^ 127 = subst PartFits (sym ed) fits.den in
    let f : SFits w128 n = fits_signed_from_abs w128 n h in
    let num : r.num ≡ neg_ℤ q.num = rn ∙ ap (λ x. to_z w128 (of_z w128 (pos 0 -ℤ x))) (to_z-of_z w128 n f) ∙ to_z-of_z w128 (pos 0 -ℤ n) (neg_fits n f h) ∙ zero-minus n ∙ ap neg_ℤ en in
    let den : r.den ≡ q.den = rd ∙ ek ∙ ap nat_abs (to_z-of_z w128 d (fits_signed_from_abs w128 d g) ∙ ed) in
    equal_by_parts r (neg_ℚ q) (num ∙ sym (neg-parts q).0) (den ∙ sym (neg-parts q).1)
