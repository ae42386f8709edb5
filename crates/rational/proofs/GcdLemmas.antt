-- Common divisors of multiples, Gauss's law, and that lowest terms are unique.
use Rattle.std.proofs.Common.{ℕ, zero, suc, ◌%◌, ◌/◌, ◌*◌, ◌+◌, ◌-◌, ◌≤◌, ◌≡◌, Bool, true, false, eqb, arith, refl, sym, ap, ◌∙◌, subst, ℤ, pos, negsuc, neg_ℤ, nat_abs, ◌*ℤ◌, zero-mul, div-add-mod'}
use native.Mathlib.Nat.{dvd-sub, dvd_antisymm, dvd-mul_right, dvd-mul_left, dvd-mul_left_of_dvd, div-mul_cancel, one-mul}
use Rattle.std.specs.Int.{◌∣◌}
use Rattle.rational.specs.Gcd.{gcd, gcd_steps, div_ℤ}
use Rattle.rational.specs.GcdLaws.{mod_small}

-- a common divisor of two multiples divides the multiple of the greatest one
gcd_steps_multiple : (k a b c d : ℕ) → b ≤ k → d ∣ a * c → d ∣ b * c → d ∣ gcd_steps k a b * c
gcd_steps_multiple zero a b c d h p q = p
gcd_steps_multiple (suc k) a b c d h p q = go (eqb b 0) refl (gcd_steps_multiple k b (a % b) c d)
  where
    less : (a % b) * c ≡ a * c - (a / b) * (b * c)
    less = let e : (a / b * b + a % b) * c ≡ a * c = ap (λ x. x * c) (div-add-mod' a b) in omega (arith, e)

    go : (t : Bool) → eqb b 0 ≡ t → (a % b ≤ k → d ∣ b * c → d ∣ a % b * c → d ∣ gcd_steps k b (a % b) * c) → d ∣ (elim t [ true ↦ a | false ↦ gcd_steps k b (a % b) ]) * c
    go true e ih = p
    go false e ih = ih (mod_small k a b h e) q (subst (λ x. d ∣ x) (sym less) (dvd-sub d p (dvd-mul_left_of_dvd d q (a / b))))

-- a common divisor of two multiples divides that multiple of the greatest common divisor
pub gcd-multiple : (a b c d : ℕ) → d ∣ a * c → d ∣ b * c → d ∣ gcd a b * c
unfolding gcd
gcd-multiple a b c d p q = gcd_steps_multiple b a b c d (omega arith) p q

-- Gauss: what divides a product and shares no divisor with one factor divides the other
pub gauss : (a b c : ℕ) → gcd a b ≡ 1 → b ∣ a * c → b ∣ c
gauss a b c e p = rw (e, one-mul) at (gcd-multiple a b c b p (dvd-mul_right b c))

-- lowest terms are unique
pub lowest_unique : (a b c d : ℕ) → gcd a b ≡ 1 → gcd c d ≡ 1 → a * d ≡ c * b → b ≡ d
lowest_unique a b c d e f h =
    dvd_antisymm (gauss a b d e (subst (λ x. b ∣ x) (sym h) (dvd-mul_left b c))) (gauss c d b f (subst (λ x. d ∣ x) h (dvd-mul_left d a)))

-- a negated natural times another
neg_pos-mul : (a b : ℕ) → neg_ℤ (pos a) *ℤ pos b ≡ neg_ℤ (pos (a * b))
neg_pos-mul zero b = ap (λ x. pos x) (zero-mul b) ∙ ap (λ x. neg_ℤ (pos x)) (sym (zero-mul b))
neg_pos-mul (suc a) b = refl

-- what divides an integer gives it back
pub div_ℤ-mul : (n : ℤ) (g : ℕ) → g ∣ nat_abs n → div_ℤ n g *ℤ pos g ≡ n
div_ℤ-mul (pos n) g p = ap pos (div-mul_cancel g p)
div_ℤ-mul (negsuc n) g p = neg_pos-mul (suc n / g) g ∙ ap (λ x. neg_ℤ (pos x)) (div-mul_cancel g p)
