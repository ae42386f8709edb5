-- the parts of a sum, where common divisors are taken out first
use Rattle.std.proofs.Common.{ℕ, ◌≡◌, ◌*◌, ◌/◌, ◌<◌, ◌≤◌, ◌^◌, ℤ, pos, negsuc, nat_abs, ◌+ℤ◌, ◌*ℤ◌, int_lt, arith, refl, sym, ap, ap₂, ◌∙◌, subst, mul-pos, [], ◌∷◌, Option, Some, None, MatchOption, inr, SFits}
use mir.Syntax.{w128}
use Rattle.std.proofs.lemmas.Int.{to_z-of_z}
use native.Mathlib.Nat.{div-mul_cancel, dvd_refl, dvd-mul_right}
use Rattle.std.specs.Int.{◌∣◌}
use Rattle.rational.proofs.PartLemmas.{frac_num_size}
use lib.IntN.{+ℤ_comm}
use Rattle.rational.specs.Gcd.{gcd}
use Rattle.rational.specs.GcdLaws.{gcd-is, gcd-parts, gcd_pos}
use Rattle.rational.specs.Rational.{ℚ, ◌+ℚ◌, frac}
use Rattle.rational.proofs.DenominatorLemmas.{den_pos, lowest}
use Rattle.rational.proofs.FractionLemmas.{StandsFor-self, StandsFor-frac, StandsFor-add, equal_by}
use Rattle.rational.proofs.IntegerRing.{integer_ring}
use Rattle.rational.proofs.Ring.{ring, ◌:*◌, ◌:+◌, A, B, C, D, E}
use Rattle.frac128.specs.Fraction.{Fits, PartFits, with_sign}
use Rattle.frac128.specs.Steps.{AddFits, num_beside}
use Rattle.frac128.proofs.PartLemmas.{kept, kept-part}
use Rattle.frac128.proofs.CoprimeLemmas.{coprime-mul, coprime-swap, coprime-parts, quotient-divides, quotient_pos, sum_apart, gcd_comm}
use Rattle.frac128.proofs.ProductSizeLemmas.{frac_same}
use Rattle.frac128.proofs.ReductionLemmas.{sizes_wide, ltb-zero}

-- a number by its sign and its size
pub signed_size : (t : ℤ) → with_sign (int_lt t (pos 0)) (nat_abs t) ≡ t
signed_size (pos n) = rw (ltb-zero n) refl
signed_size (negsuc n) = refl

-- and a number as it was stored
pub kept_size : (t : ℤ) (size : ℕ) → SFits w128 t → size ≡ nat_abs t → with_sign (int_lt (kept t) (pos 0)) size ≡ t
kept_size t size f is = ap₂ (λ x n. with_sign (int_lt x (pos 0)) n) (to_z-of_z w128 t f) is ∙ signed_size t

-- what the code has of top / (own * (others * common))
pub record Over (t : ℤ) (size own others common shared top rest : ℕ) : Type 0 where
  pub own_positive : 0 < own
  pub others_positive : 0 < others
  pub common_positive : 0 < common
  pub own_apart : gcd (nat_abs t) own ≡ 1
  pub others_apart : gcd (nat_abs t) others ≡ 1
  pub size_is : size ≡ nat_abs t
  pub shared_is : shared ≡ gcd size common
  pub top_is : top ≡ size / shared
  pub rest_is : rest ≡ common / shared

-- the parts that are left share nothing
apart : (n own others common : ℕ) → 0 < common → gcd n own ≡ 1 → gcd n others ≡ 1 → gcd (n / gcd n common) (own * (others * (common / gcd n common))) ≡ 1
apart n own others common p e f =
    let h = gcd n common in
    let divides = quotient-divides n h (gcd-is n common).0 in
    coprime-swap (own * (others * (common / h))) (n / h) (coprime-mul own (others * (common / h)) (n / h) (coprime-swap (n / h) own (coprime-parts n own (n / h) own divides (dvd_refl own) e)) (coprime-mul others (common / h) (n / h) (coprime-swap (n / h) others (coprime-parts n others (n / h) others divides (dvd_refl others) f)) (coprime-swap (n / h) (common / h) (gcd-parts n common p))))

-- the cross products agree
cross : (x r h n g own others : ℕ) → x * h ≡ n → r * h ≡ g → x * (own * (others * g)) ≡ n * (own * (others * r))
cross x r h n g own others p q = rw (← p, ← q) (omega arith)

-- the denominator in lowest terms is positive
pub over_positive : (t : ℤ) (size own others common shared top rest : ℕ) → Over t size own others common shared top rest → 0 < own * (others * rest)
over_positive t size own others common shared top rest k =
    rw (k.rest_is, k.shared_is) (mul-pos k.own_positive (mul-pos k.others_positive (quotient_pos common (gcd size common) (gcd-is size common).1 k.common_positive)))

-- the parts that the code computes share nothing
pub over_lowest : (t : ℤ) (size own others common shared top rest : ℕ) → Over t size own others common shared top rest → gcd top (own * (others * rest)) ≡ 1
over_lowest t size own others common shared top rest k =
    rw (k.top_is, k.rest_is, k.shared_is, k.size_is) (apart (nat_abs t) own others common k.common_positive k.own_apart k.others_apart)

-- their value is the quotient
pub over_value : (t : ℤ) (size own others common shared top rest : ℕ) → Over t size own others common shared top rest → frac (with_sign (int_lt t (pos 0)) top) (own * (others * rest)) ≡ frac t (own * (others * common))
over_value t size own others common shared top rest k =
    frac_same (int_lt t (pos 0)) top (own * (others * rest)) size (own * (others * common)) (over_positive t size own others common shared top rest k) (mul-pos k.own_positive (mul-pos k.others_positive k.common_positive))
    (cross top rest shared size common own others (rw (k.top_is, k.shared_is) (div-mul_cancel (gcd size common) (gcd-is size common).0)) (rw (k.rest_is, k.shared_is) (div-mul_cancel (gcd size common) (gcd-is size common).1)))
    ∙ ap (λ x. frac x (own * (others * common))) (ap (with_sign (int_lt t (pos 0))) k.size_is ∙ signed_size t)

-- the same, by the numbers that the code has
pub over_read : (t : ℤ) (size own others common shared top rest bottom : ℕ) → Over t size own others common shared top rest → SFits w128 t → bottom ≡ own * (others * rest) → frac (with_sign (int_lt (kept t) (pos 0)) top) bottom ≡ frac t (own * (others * common))
over_read t size own others common shared top rest bottom k f is =
    ap₂ (λ x y. frac (with_sign (int_lt x (pos 0)) top) y) (to_z-of_z w128 t f) is ∙ over_value t size own others common shared top rest k

-- a denominator that leaves 128 bits refuses the quotient
pub over_wide : (t : ℤ) (size own others common shared top rest : ℕ) → Over t size own others common shared top rest → 2 ^ 127 ≤ own * (others * rest) → ¬ (Fits (frac t (own * (others * common))))
over_wide t size own others common shared top rest k wide f =
    sizes_wide (int_lt t (pos 0)) top (own * (others * rest)) (over_positive t size own others common shared top rest k) (over_lowest t size own others common shared top rest k) (inr wide) (subst Fits (sym (over_value t size own others common shared top rest k)) f)

-- at most, and below
le-lt_trans : {a b c : ℕ} → a ≤ b → b < c → a < c
le-lt_trans h g = omega arith

-- what the code has of a + b before the sum is brought to lowest terms
pub record Summands (a b : ℚ) (d e g own others : ℕ) : Type 0 where
  pub den_is : d ≡ a.den
  pub other_den_is : e ≡ b.den
  pub common_is : g ≡ gcd d e
  pub own_is : own ≡ d / g
  pub others_is : others ≡ e / g

-- the greatest common divisor of denominators is positive
pub summands_common_positive : (a b : ℚ) (d e g own others : ℕ) → Summands a b d e g own others → 0 < g
summands_common_positive a b d e g own others k = rw (k.common_is, k.other_den_is) (gcd_pos d b.den (den_pos b))

-- a denominator is what it has alone times what both share
own_times : (a b : ℚ) (d e g own others : ℕ) → Summands a b d e g own others → own * g ≡ a.den
own_times a b d e g own others k =
    ap (λ x. x * g) k.own_is ∙ ap (λ x. d / x * x) k.common_is ∙ div-mul_cancel (gcd d e) (gcd-is d e).0 ∙ k.den_is

-- the same of the other denominator
others_times : (a b : ℚ) (d e g own others : ℕ) → Summands a b d e g own others → others * g ≡ b.den
others_times a b d e g own others k =
    ap (λ x. x * g) k.others_is ∙ ap (λ x. e / x * x) k.common_is ∙ div-mul_cancel (gcd d e) (gcd-is d e).1 ∙ k.other_den_is

-- what one denominator has alone is positive
pub own_positive : (a b : ℚ) (d e g own others : ℕ) → Summands a b d e g own others → 0 < own
own_positive a b d e g own others k =
    rw (k.own_is, k.common_is) (quotient_pos d (gcd d e) (gcd-is d e).0 (rw k.den_is (den_pos a)))

-- the same of the other denominator
pub others_positive : (a b : ℚ) (d e g own others : ℕ) → Summands a b d e g own others → 0 < others
others_positive a b d e g own others k =
    rw (k.others_is, k.common_is) (quotient_pos e (gcd d e) (gcd-is d e).1 (rw k.other_den_is (den_pos b)))

-- the other denominator fits
pub other_den_in_range : (a b : ℚ) (d e g own others : ℕ) → Summands a b d e g own others → Fits b → others * g < 2 ^ 127
other_den_in_range a b d e g own others k f = subst (λ x. x < 2 ^ 127) (sym (others_times a b d e g own others k)) f.den

-- what the denominators have alone shares nothing
denominators_apart : (a b : ℚ) (d e g own others : ℕ) → Summands a b d e g own others → gcd own others ≡ 1
denominators_apart a b d e g own others k =
    rw (k.own_is, k.others_is, k.common_is) (gcd-parts d e (rw k.other_den_is (den_pos b)))

-- the sum over the least common denominator shares nothing with what only one denominator has
pub own_apart : (a b : ℚ) (d e g own others : ℕ) → Summands a b d e g own others → gcd (nat_abs ((a.num *ℤ pos others) +ℤ (b.num *ℤ pos own))) own ≡ 1
own_apart a b d e g own others k =
    sum_apart a.num b.num a.den own others (lowest a) (subst (λ x. own ∣ x) (own_times a b d e g own others k) (dvd-mul_right own g)) (denominators_apart a b d e g own others k)

-- the same of the other denominator
pub others_apart : (a b : ℚ) (d e g own others : ℕ) → Summands a b d e g own others → gcd (nat_abs ((a.num *ℤ pos others) +ℤ (b.num *ℤ pos own))) others ≡ 1
others_apart a b d e g own others k =
    ap (λ x. gcd (nat_abs x) others) (+ℤ_comm (a.num *ℤ pos others) (b.num *ℤ pos own)) ∙ sum_apart b.num a.num b.den others own (lowest b) (subst (λ x. others ∣ x) (others_times a b d e g own others k) (dvd-mul_right others g)) (coprime-swap own others (denominators_apart a b d e g own others k))

-- the cross products agree
cross_sum : (n m : ℤ) (own others g d e : ℕ) → own * g ≡ d → others * g ≡ e → ((n *ℤ pos others) +ℤ (m *ℤ pos own)) *ℤ pos (d * e) ≡ ((n *ℤ pos e) +ℤ (m *ℤ pos d)) *ℤ pos (own * (others * g))
cross_sum n m own others g d e p q =
    rw (← p, ← q) (ring integer_ring (n ∷ m ∷ pos own ∷ pos others ∷ pos g ∷ []) ((A :* D :+ B :* C) :* ((C :* E) :* (D :* E))) ((A :* (D :* E) :+ B :* (C :* E)) :* (C :* (D :* E))) refl)

-- the value of the sum over the least common denominator
pub sum_value : (a b : ℚ) (d e g own others : ℕ) → Summands a b d e g own others → frac ((a.num *ℤ pos others) +ℤ (b.num *ℤ pos own)) (own * (others * g)) ≡ a +ℚ b
sum_value a b d e g own others k =
    let top = (a.num *ℤ pos others) +ℤ (b.num *ℤ pos own) in
    let bottom = own * (others * g) in
    let positive : 0 < bottom = mul-pos (own_positive a b d e g own others k) (mul-pos (others_positive a b d e g own others k) (summands_common_positive a b d e g own others k)) in
    equal_by (frac top bottom) (a +ℚ b) top ((a.num *ℤ pos b.den) +ℤ (b.num *ℤ pos a.den)) bottom (a.den * b.den) (StandsFor-frac top bottom positive) (StandsFor-add a b a.num b.num a.den b.den (StandsFor-self a) (StandsFor-self b)) (cross_sum a.num b.num own others g a.den b.den (own_times a b d e g own others k) (others_times a b d e g own others k))

-- the two products, in the words of the contract
pub left_is : (a b : ℚ) (d e g own others : ℕ) → Summands a b d e g own others → num_beside a b ≡ a.num *ℤ pos others
left_is a b d e g own others k =
    ap (λ x. a.num *ℤ pos x) (sym (k.others_is ∙ ap₂ ◌/◌ k.other_den_is (k.common_is ∙ ap₂ gcd k.den_is k.other_den_is)))

-- the same of the second product
pub right_is : (a b : ℚ) (d e g own others : ℕ) → Summands a b d e g own others → num_beside b a ≡ b.num *ℤ pos own
right_is a b d e g own others k =
    ap (λ x. b.num *ℤ pos x) (sym (k.own_is ∙ ap₂ ◌/◌ k.den_is (k.common_is ∙ ap₂ gcd k.den_is k.other_den_is ∙ gcd_comm a.den b.den)))

-- the products and their sum, as the code has them
pub record Tops (a b : ℚ) (own others : ℕ) (n m left right top : ℤ) : Type 0 where
  pub num_is : n ≡ a.num
  pub num_fits : Fits a
  pub other_num_is : m ≡ b.num
  pub other_num_fits : Fits b
  pub left_is : left ≡ kept n *ℤ pos others
  pub left_fits : PartFits left
  pub right_is : right ≡ kept m *ℤ pos own
  pub right_fits : PartFits right
  pub top_is : top ≡ kept left +ℤ kept right
  pub top_fits : PartFits top

-- the first product, by the values
tops_left : (a b : ℚ) (own others : ℕ) (n m l r t : ℤ) → Tops a b own others n m l r t → l ≡ a.num *ℤ pos others
tops_left a b own others n m l r t k =
    k.left_is ∙ ap (λ x. x *ℤ pos others) (kept-part n a.num k.num_is k.num_fits.num)

-- the second product, by the values
tops_right : (a b : ℚ) (own others : ℕ) (n m l r t : ℤ) → Tops a b own others n m l r t → r ≡ b.num *ℤ pos own
tops_right a b own others n m l r t k =
    k.right_is ∙ ap (λ x. x *ℤ pos own) (kept-part m b.num k.other_num_is k.other_num_fits.num)

-- the sum of the products, by the values
tops_top : (a b : ℚ) (own others : ℕ) (n m l r t : ℤ) → Tops a b own others n m l r t → t ≡ (a.num *ℤ pos others) +ℤ (b.num *ℤ pos own)
tops_top a b own others n m l r t k =
    k.top_is ∙ ap₂ ◌+ℤ◌ (kept-part l l refl k.left_fits ∙ tops_left a b own others n m l r t k) (kept-part r r refl k.right_fits ∙ tops_right a b own others n m l r t k)

-- the same as the code passes it on
pub kept_top : (a b : ℚ) (own others : ℕ) (n m l r t : ℤ) → Tops a b own others n m l r t → kept t ≡ (a.num *ℤ pos others) +ℤ (b.num *ℤ pos own)
kept_top a b own others n m l r t k = kept-part t t refl k.top_fits ∙ tops_top a b own others n m l r t k

-- a product or a sum that does not fit refuses the step
pub left_refused : (a b : ℚ) (d e g own others : ℕ) (n : ℤ) → Summands a b d e g own others → n ≡ a.num → Fits a → ¬ (PartFits (kept n *ℤ pos others)) → ¬ (AddFits a b)
left_refused a b d e g own others n k is fits wide f =
    wide (subst PartFits (left_is a b d e g own others k ∙ sym (ap (λ x. x *ℤ pos others) (kept-part n a.num is fits.num))) f.left)

-- the same of the second product
pub right_refused : (a b : ℚ) (d e g own others : ℕ) (m : ℤ) → Summands a b d e g own others → m ≡ b.num → Fits b → ¬ (PartFits (kept m *ℤ pos own)) → ¬ (AddFits a b)
right_refused a b d e g own others m k is fits wide f =
    wide (subst PartFits (right_is a b d e g own others k ∙ sym (ap (λ x. x *ℤ pos own) (kept-part m b.num is fits.num))) f.right)

-- the same of their sum
pub top_refused : (a b : ℚ) (d e g own others : ℕ) (n m l r : ℤ) → Summands a b d e g own others → n ≡ a.num → Fits a → m ≡ b.num → Fits b → (l ≡ kept n *ℤ pos others) × PartFits l → (r ≡ kept m *ℤ pos own) × PartFits r → ¬ (PartFits (kept l +ℤ kept r)) → ¬ (AddFits a b)
top_refused a b d e g own others n m l r k en fa em fb p q wide f =
    let left : kept l ≡ num_beside a b = kept-part l l refl p.1 ∙ p.0 ∙ ap (λ x. x *ℤ pos others) (kept-part n a.num en fa.num) ∙ sym (left_is a b d e g own others k) in
    let right : kept r ≡ num_beside b a = kept-part r r refl q.1 ∙ q.0 ∙ ap (λ x. x *ℤ pos own) (kept-part m b.num em fb.num) ∙ sym (right_is a b d e g own others k) in
    wide (subst PartFits (sym (ap₂ ◌+ℤ◌ left right)) f.top)

-- no answer, where the step is refused
pub sum_refused : (a b : ℚ) (o : Option ℚ) → o ≡ None → ¬ (AddFits a b) → MatchOption o (¬ (AddFits a b)) (λ f. (f ≡ a +ℚ b) × AddFits a b)
sum_refused a b o e h =
    subst (λ x. MatchOption x (¬ (AddFits a b)) (λ f. (f ≡ a +ℚ b) × AddFits a b)) (sym e) h

-- what an answer for the sum of the products says of the sum
pub sum_answer : (a b : ℚ) (d e g own others : ℕ) (n m l r t : ℤ) (o : Option ℚ) → Summands a b d e g own others → Tops a b own others n m l r t → MatchOption o (¬ (Fits (frac (kept t) (own * (others * g))))) (λ f. (f ≡ frac (kept t) (own * (others * g))) × Fits f) → MatchOption o (¬ (AddFits a b)) (λ f. (f ≡ a +ℚ b) × AddFits a b)
sum_answer a b d e g own others n m l r t o k tops given = go o given
  where
    value : frac (kept t) (own * (others * g)) ≡ a +ℚ b
    value = ap (λ x. frac x (own * (others * g))) (kept_top a b own others n m l r t tops) ∙ sum_value a b d e g own others k

    positive : 0 < own * (others * g)
    positive = mul-pos (own_positive a b d e g own others k) (mul-pos (others_positive a b d e g own others k) (summands_common_positive a b d e g own others k))

    top : PartFits (kept t)
    top = subst PartFits (sym (kept-part t t refl tops.top_fits)) tops.top_fits

    go : (x : Option ℚ) → MatchOption x (¬ (Fits (frac (kept t) (own * (others * g))))) (λ f. (f ≡ frac (kept t) (own * (others * g))) × Fits f) → MatchOption x (¬ (AddFits a b)) (λ f. (f ≡ a +ℚ b) × AddFits a b)
    go None h = λ fits. h (record { num = le-lt_trans (frac_num_size (kept t) (own * (others * g)) positive) top; den = subst (λ (q : ℚ). q.den < 2 ^ 127) (sym value) fits.den })
    go (Some f) h = (
      h.0 ∙ value,
      record {
        left = subst PartFits (tops_left a b own others n m l r t tops ∙ sym (left_is a b d e g own others k)) tops.left_fits;
        right = subst PartFits (tops_right a b own others n m l r t tops ∙ sym (right_is a b d e g own others k)) tops.right_fits;
        top = subst PartFits (tops_top a b own others n m l r t tops ∙ sym (ap₂ ◌+ℤ◌ (left_is a b d e g own others k) (right_is a b d e g own others k))) tops.top_fits;
        den = subst (λ (q : ℚ). q.den < 2 ^ 127) (h.0 ∙ value) h.1.den;
      },
    )
