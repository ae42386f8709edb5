-- The whole numbers of a row are determined by its fractions
use Rattle.std.proofs.Common.{ℕ, ℤ, pos, negsuc, suc, zero, ◌≡◌, ◌<◌, ◌*◌, ◌/◌, ◌*ℤ◌, ◌<ℤ◌, nat_abs, refl, sym, ap, ◌∙◌, subst, subst₂, arith}
use Rattle.std.specs.Int.{◌∣◌}
use Rattle.std.proofs.lemmas.Int.{ints, unsigned_abs-mul}
use native.Mathlib.Nat.{dvd-mul_right, dvd-mul_left, div-mul_cancel, dvd_of_mul-dvd-mul_right, dvd_antisymm, one-mul}
use Rattle.rational.specs.Gcd.{gcd}
use Rattle.rational.specs.GcdLaws.{gcd-is, gcd_pos}
use Rattle.rational.proofs.GcdLemmas.{gcd-multiple}
use Rattle.rational.proofs.PartLemmas.{frac-eq}
use Rattle.rational.proofs.FractionLemmas.{cancel_pos}
use Rattle.whole_rows.specs.Rows.{IsRow, fraction}

swap : (a b : ℕ) → a * b ≡ b * a
swap a b = omega arith

positive_abs : (n : ℤ) → pos 0 <ℤ n → (n ≡ pos (nat_abs n)) × (0 < nat_abs n)
positive_abs (pos n) h = (refl, omega (arith, ints, h))
positive_abs (negsuc n) h = absurd (omega (arith, ints, h))

-- the fractions as products, at each place
crossed : (size : ℕ) (x y : ℕ → ℤ) → IsRow size x → IsRow size y → ((p : ℕ) → 0 < p → p < size → fraction x p ≡ fraction y p) → (p : ℕ) → p < size → x p *ℤ pos (nat_abs (y 0)) ≡ y p *ℤ pos (nat_abs (x 0))
crossed size x y hx hy e zero h =
    ap (λ a. a *ℤ pos (nat_abs (y 0))) (positive_abs (x 0) hx.positive).0 ∙ ap pos (swap (nat_abs (x 0)) (nat_abs (y 0))) ∙ ap (λ a. a *ℤ pos (nat_abs (x 0))) (sym (positive_abs (y 0) hy.positive).0)
crossed size x y hx hy e (suc p) h =
    (frac-eq (x (suc p)) (y (suc p)) (nat_abs (x 0)) (nat_abs (y 0)) (positive_abs (x 0) hx.positive).1 (positive_abs (y 0) hy.positive).1).0 (e (suc p) (omega arith) h)

-- the coefficient of one divides that of the other: what it has beyond the common part divides the whole row
divides : (size : ℕ) (x y : ℕ → ℤ) → IsRow size x → IsRow size y → ((p : ℕ) → p < size → x p *ℤ pos (nat_abs (y 0)) ≡ y p *ℤ pos (nat_abs (x 0))) → nat_abs (x 0) ∣ nat_abs (y 0)
divides size x y hx hy cross = subst (λ a. a ∣ b) (sym whole) (gcd-is a b).1
  where
    a : ℕ
    a = nat_abs (x 0)

    b : ℕ
    b = nat_abs (y 0)

    common_pos : 0 < gcd a b
    common_pos = gcd_pos a b (positive_abs (y 0) hy.positive).1

    beyond : ℕ
    beyond = a / gcd a b

    parts : beyond * gcd a b ≡ a
    parts = div-mul_cancel (gcd a b) (gcd-is a b).0

    each : (p : ℕ) → p < size → beyond ∣ nat_abs (x p)
    each p h =
        dvd_of_mul-dvd-mul_right {k = gcd a b} beyond common_pos (subst₂ (λ m n. m ∣ n) (sym parts) (swap (gcd a b) (nat_abs (x p))) (gcd-multiple a b (nat_abs (x p)) a (dvd-mul_right a (nat_abs (x p))) (subst (λ m. a ∣ m) (sym (sizes p h)) (dvd-mul_left a (nat_abs (y p))))))
      where
        sizes : (p : ℕ) → p < size → b * nat_abs (x p) ≡ nat_abs (y p) * a
        sizes p h = swap b (nat_abs (x p)) ∙ sym (unsigned_abs-mul (x p) (pos b)) ∙ ap nat_abs (cross p h) ∙ unsigned_abs-mul (y p) (pos a)

    whole : a ≡ gcd a b
    whole = sym parts ∙ ap (λ m. m * gcd a b) (hx.lowest beyond each) ∙ one-mul (gcd a b)

pub rows_determined : (size : ℕ) (x y : ℕ → ℤ) → 0 < size → IsRow size x → IsRow size y → ((p : ℕ) → 0 < p → p < size → fraction x p ≡ fraction y p) → (p : ℕ) → p < size → x p ≡ y p
rows_determined size x y some hx hy e p h =
    cancel_pos (x p) (y p) (nat_abs (y 0)) (positive_abs (y 0) hy.positive).1 (crossed size x y hx hy e p h ∙ ap (λ m. y p *ℤ pos m) same)
  where
    same : nat_abs (x 0) ≡ nat_abs (y 0)
    same = dvd_antisymm (divides size x y hx hy (crossed size x y hx hy e)) (divides size y x hy hx (crossed size y x hy hx (λ p l k. sym (e p l k))))
