-- the sizes of a product, where common divisors are taken out first
use Rattle.std.proofs.Common.{ℕ, zero, suc, ◌≡◌, ◌*◌, ◌/◌, ◌<◌, ◌≤◌, ◌^◌, pos, neg_ℤ, ◌*ℤ◌, Bool, true, false, arith, refl, sym, ap, ◌∙◌, subst, mul-pos, zero-mul, ◌⊎◌}
use native.Mathlib.Nat.{div-mul_cancel}
use Rattle.rational.specs.Gcd.{gcd}
use Rattle.rational.specs.GcdLaws.{gcd-is, gcd-parts}
use Rattle.rational.specs.Rational.{frac}
use Rattle.rational.proofs.FractionLemmas.{StandsFor-frac, equal_by}
use Rattle.frac128.specs.Fraction.{Fits, with_sign}
use Rattle.frac128.proofs.CoprimeLemmas.{coprime-mul, coprime-swap, coprime-parts, quotient-divides, quotient_pos}
use Rattle.frac128.proofs.ReductionLemmas.{sizes_wide}

-- a sign goes out of a product
pub with_sign-mul : (s : Bool) (x y : ℕ) → with_sign s x *ℤ pos y ≡ with_sign s (x * y)
with_sign-mul true zero y = ap pos (zero-mul y) ∙ ap (λ x. neg_ℤ (pos x)) (sym (zero-mul y))
with_sign-mul true (suc x) y = refl
with_sign-mul false x y = refl

-- a quotient of sizes is one of others with the same cross product
pub frac_same : (s : Bool) (x y n d : ℕ) → 0 < y → 0 < d → x * d ≡ n * y → frac (with_sign s x) y ≡ frac (with_sign s n) d
frac_same s x y n d h g e =
    equal_by (frac (with_sign s x) y) (frac (with_sign s n) d) (with_sign s x) (with_sign s n) y d (StandsFor-frac (with_sign s x) y h) (StandsFor-frac (with_sign s n) d g) (with_sign-mul s x d ∙ ap (with_sign s) e ∙ sym (with_sign-mul s n y))

-- what the code has of a / b times c / d
pub record Crossed (a b c d g h top_left top_right bottom_left bottom_right : ℕ) : Type 0 where
  pub left_positive : 0 < b
  pub right_positive : 0 < d
  pub left_lowest : gcd a b ≡ 1
  pub right_lowest : gcd c d ≡ 1
  pub left : g ≡ gcd a d
  pub right : h ≡ gcd c b
  pub top_left_is : top_left ≡ a / g
  pub top_right_is : top_right ≡ c / h
  pub bottom_left_is : bottom_left ≡ b / h
  pub bottom_right_is : bottom_right ≡ d / g

-- the parts that are left share nothing
apart : (a b c d : ℕ) → 0 < b → 0 < d → gcd a b ≡ 1 → gcd c d ≡ 1 → gcd (a / gcd a d * (c / gcd c b)) (b / gcd c b * (d / gcd a d)) ≡ 1
apart a b c d p q e f =
    let g = gcd a d in
    let h = gcd c b in
    let bottom = b / h * (d / g) in
    coprime-mul (a / g) (c / h) bottom
    (coprime-swap bottom (a / g) (coprime-mul (b / h) (d / g) (a / g) (coprime-parts b a (b / h) (a / g) (quotient-divides b h (gcd-is c b).1) (quotient-divides a g (gcd-is a d).0) (coprime-swap a b e)) (coprime-swap (a / g) (d / g) (gcd-parts a d q))))
    (coprime-swap bottom (c / h) (coprime-mul (b / h) (d / g) (c / h) (coprime-swap (c / h) (b / h) (gcd-parts c b p)) (coprime-parts d c (d / g) (c / h) (quotient-divides d g (gcd-is a d).1) (quotient-divides c h (gcd-is c b).0) (coprime-swap c d f))))

-- the cross products agree
cross : (x y z w g h a b c d : ℕ) → x * g ≡ a → y * h ≡ c → z * h ≡ b → w * g ≡ d → x * y * (b * d) ≡ a * c * (z * w)
cross x y z w g h a b c d p q r s = rw (← p, ← q, ← r, ← s) (omega arith)

-- the denominator of the product is positive
pub crossed_positive : (a b c d g h x y z w : ℕ) → Crossed a b c d g h x y z w → 0 < z * w
crossed_positive a b c d g h x y z w k =
    rw (k.bottom_left_is, k.bottom_right_is, k.left, k.right) (mul-pos (quotient_pos b (gcd c b) (gcd-is c b).1 k.left_positive) (quotient_pos d (gcd a d) (gcd-is a d).1 k.right_positive))

-- its parts share nothing
pub crossed_lowest : (a b c d g h x y z w : ℕ) → Crossed a b c d g h x y z w → gcd (x * y) (z * w) ≡ 1
crossed_lowest a b c d g h x y z w k =
    rw (k.top_left_is, k.top_right_is, k.bottom_left_is, k.bottom_right_is, k.left, k.right) (apart a b c d k.left_positive k.right_positive k.left_lowest k.right_lowest)

-- its value is the product
pub crossed_value : (s : Bool) (a b c d g h x y z w : ℕ) → Crossed a b c d g h x y z w → frac (with_sign s (x * y)) (z * w) ≡ frac (with_sign s (a * c)) (b * d)
crossed_value s a b c d g h x y z w k =
    frac_same s (x * y) (z * w) (a * c) (b * d) (crossed_positive a b c d g h x y z w k) (mul-pos k.left_positive k.right_positive)
    (cross x y z w g h a b c d (rw (k.top_left_is, k.left) (div-mul_cancel (gcd a d) (gcd-is a d).0)) (rw (k.top_right_is, k.right) (div-mul_cancel (gcd c b) (gcd-is c b).0)) (rw (k.bottom_left_is, k.right) (div-mul_cancel (gcd c b) (gcd-is c b).1)) (rw (k.bottom_right_is, k.left) (div-mul_cancel (gcd a d) (gcd-is a d).1)))

-- a part that leaves 128 bits
pub crossed_wide : (s : Bool) (a b c d g h x y z w : ℕ) → Crossed a b c d g h x y z w → (2 ^ 127 ≤ x * y) ⊎ (2 ^ 127 ≤ z * w) → ¬ (Fits (frac (with_sign s (a * c)) (b * d)))
crossed_wide s a b c d g h x y z w k wide f =
    sizes_wide s (x * y) (z * w) (crossed_positive a b c d g h x y z w k) (crossed_lowest a b c d g h x y z w k) wide (subst Fits (sym (crossed_value s a b c d g h x y z w k)) f)
