-- What the greatest common divisor divides, and the parts that are left when it is divided away.
-- The definition of fractions asks for it.
use Rattle.std.proofs.Common.{ℕ, zero, suc, ◌%◌, ◌/◌, ◌*◌, ◌≤◌, ◌<◌, ◌≡◌, Bool, true, false, eqb, eqb→eq, arith, refl, sym, subst, T, tests}
use native.Mathlib.Nat.{eq-one_of_dvd-one, div-mul_cancel, one-mul, pos_of_dvd_of_pos, dvd_of_mul-dvd-mul_right, mul-dvd-mul_right}
use Rattle.std.specs.Int.{IsGcd, ◌∣◌}
use Rattle.std.proofs.lemmas.Nat.Gcd.{IsGcd-from_zero, IsGcd-from_mod}
use Rattle.rational.specs.Gcd.{gcd, gcd_steps}

-- a remainder is below the divisor
pub mod_small : (k a b : ℕ) → b ≤ suc k → eqb b 0 ≡ false → a % b ≤ k
mod_small k a b h e = grind (arith, tests)

-- Euclid's steps find the greatest common divisor
gcd_steps_is : (k a b : ℕ) → b ≤ k → IsGcd a b (gcd_steps k a b)
gcd_steps_is zero a b h = IsGcd-from_zero a b (omega arith)
gcd_steps_is (suc k) a b h = go (eqb b 0) refl (gcd_steps_is k b (a % b))
  where
    go : (t : Bool) → eqb b 0 ≡ t → (a % b ≤ k → IsGcd b (a % b) (gcd_steps k b (a % b)))
        → IsGcd a b (elim t [ true ↦ a | false ↦ gcd_steps k b (a % b) ])
    go true e ih = IsGcd-from_zero a b (eqb→eq b 0 (subst T (sym e) tt))
    go false e ih = IsGcd-from_mod a b (gcd_steps k b (a % b)) (ih (mod_small k a b h e))

-- what gcd gives is the greatest common divisor
pub gcd-is : (a b : ℕ) → IsGcd a b (gcd a b)
unfolding gcd
gcd-is a b = gcd_steps_is b a b (omega arith)

-- the greatest common divisor with a positive number is positive
pub gcd_pos : (a b : ℕ) → 0 < b → 0 < gcd a b
gcd_pos a b h = pos_of_dvd_of_pos (gcd-is a b).1 h

-- the parts that are left when the greatest common divisor is divided away share none
pub gcd-parts : (a b : ℕ) → 0 < b → gcd (a / gcd a b) (b / gcd a b) ≡ 1
gcd-parts a b h =
    eq-one_of_dvd-one
    (dvd_of_mul-dvd-mul_right {k = gcd a b} (gcd (a / gcd a b) (b / gcd a b)) (gcd_pos a b h)
    (subst (λ x. gcd (a / gcd a b) (b / gcd a b) * gcd a b ∣ x) (sym (one-mul (gcd a b)))
    ((gcd-is a b).2 _ (whole a (gcd-is a b).0 (gcd-is (a / gcd a b) (b / gcd a b)).0)
    (whole b (gcd-is a b).1 (gcd-is (a / gcd a b) (b / gcd a b)).1))))
  where
    whole : (x : ℕ) → gcd a b ∣ x → gcd (a / gcd a b) (b / gcd a b) ∣ x / gcd a b
        → gcd (a / gcd a b) (b / gcd a b) * gcd a b ∣ x
    whole x p q =
        subst (λ y. gcd (a / gcd a b) (b / gcd a b) * gcd a b ∣ y) (div-mul_cancel (gcd a b) p)
        (mul-dvd-mul_right _ q (gcd a b))
