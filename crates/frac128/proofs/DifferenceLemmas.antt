-- a difference as a sum
use Rattle.std.proofs.Common.{ℕ, ◌≡◌, ◌/◌, ◌<◌, ◌^◌, ℤ, pos, neg_ℤ, ◌+ℤ◌, ◌*ℤ◌, refl, sym, ap, ap₂, ◌∙◌, subst, [], ◌∷◌, Option, Some, None, MatchOption}
use Rattle.rational.proofs.PartLemmas.{abs-neg, neg-parts}
use Rattle.rational.specs.Gcd.{gcd}
use Rattle.rational.specs.Rational.{ℚ, ◌+ℚ◌, ◌-ℚ◌, neg_ℚ}
use Rattle.rational.proofs.IntegerRing.{integer_ring}
use Rattle.rational.proofs.Ring.{ring, ◌:*◌, :neg, A, B}
use Rattle.frac128.specs.Fraction.{PartFits}
use Rattle.frac128.specs.Steps.{AddFits, SubFits, num_beside}

-- the other sign leaves the own numerator
own_same : (a b : ℚ) → num_beside a (neg_ℚ b) ≡ num_beside a b
own_same a b = ap (λ d. a.num *ℤ pos (d / gcd a.den d)) (neg-parts b).1

-- a sign goes out of a product
neg-mul : (x : ℤ) (y : ℕ) → neg_ℤ x *ℤ pos y ≡ neg_ℤ (x *ℤ pos y)
neg-mul x y = ring integer_ring (x ∷ pos y ∷ []) (:neg A :* B) (:neg (A :* B)) refl

-- the other numerator has the other sign
other_turned : (a b : ℚ) → num_beside (neg_ℚ b) a ≡ neg_ℤ (num_beside b a)
other_turned a b =
    ap₂ (λ n d. n *ℤ pos (a.den / gcd d a.den)) (neg-parts b).0 (neg-parts b).1 ∙ neg-mul b.num (a.den / gcd b.den a.den)

-- a part fits with either sign
pub neg_fits : (n : ℤ) → PartFits n → PartFits (neg_ℤ n)
neg_fits n h = subst (λ x. x < 2 ^ 127) (sym (abs-neg n)) h

-- and the other way
fits_of_neg : (n : ℤ) → PartFits (neg_ℤ n) → PartFits n
fits_of_neg n h = subst (λ x. x < 2 ^ 127) (abs-neg n) h

-- a difference fits where the sum with the other sign does
pub SubFits-in : (a b : ℚ) → AddFits a (neg_ℚ b) → SubFits a b
SubFits-in a b k =
    record {
      left = subst PartFits (own_same a b) k.left;
      right = fits_of_neg (num_beside b a) (subst PartFits (other_turned a b) k.right);
      top = subst PartFits (ap₂ ◌+ℤ◌ (own_same a b) (other_turned a b)) k.top;
      den = k.den;
    }

-- and the other way
pub SubFits-out : (a b : ℚ) → SubFits a b → AddFits a (neg_ℚ b)
SubFits-out a b k =
    record {
      left = subst PartFits (sym (own_same a b)) k.left;
      right = subst PartFits (sym (other_turned a b)) (neg_fits (num_beside b a) k.right);
      top = subst PartFits (sym (ap₂ ◌+ℤ◌ (own_same a b) (other_turned a b))) k.top;
      den = k.den;
    }

-- what an answer for the sum with the other sign says of the difference
pub difference_answer : (a b c : ℚ) (o : Option ℚ) → c ≡ neg_ℚ b → MatchOption o (¬ (AddFits a c)) (λ f. (f ≡ a +ℚ c) × AddFits a c) → MatchOption o (¬ (SubFits a b)) (λ f. (f ≡ a -ℚ b) × SubFits a b)
difference_answer a b c None e h = λ k. h (subst (λ x. AddFits a x) (sym e) (SubFits-out a b k))
difference_answer a b c (Some f) e h =
    (h.0 ∙ ap (λ x. a +ℚ x) e, SubFits-in a b (subst (λ x. AddFits a x) e h.1))
