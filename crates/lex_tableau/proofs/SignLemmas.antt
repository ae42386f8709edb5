-- The sign of a fraction is that of its numerator
use Rattle.std.proofs.Common.{ℕ, ℤ, pos, negsuc, suc, zero, ◌≡◌, ◌<◌, ◌*ℤ◌, ap, sym, ◌∙◌, subst, arith, refl, lit<, to_z, of_z, min}
use Rattle.std.specs.Int.{int_signum, w8, w128}
use Rattle.std.proofs.lemmas.Int.{ints}
use Rattle.std.proofs.Math.IntN.{zero-*ℤ}
use Rattle.rational.specs.Tests.{sign_of}
use Rattle.rational.specs.Rational.{frac}
use Rattle.rational.proofs.PartLemmas.{frac-eq, frac-lt}
use Rattle.rational.proofs.IntegerRing.{*ℤ_one}
use Rattle.rational.proofs.TestLemmas.{sign_of-positive, sign_of-zero, sign_of-negative}

one : (n : ℕ) → int_signum (pos (suc n)) ≡ pos 1
one n = ap pos (let h : min (suc n) 1 ≡ 1 = omega arith in h)

pub sign_of-frac : (n : ℤ) (d : ℕ) → 0 < d → sign_of (frac n d) ≡ int_signum n
sign_of-frac (pos zero) d h = (sign_of-zero (frac (pos 0) d)).1 ((frac-eq (pos 0) (pos 0) d 1 h (lit< tt)).1 (zero-*ℤ (pos 1) ∙ sym (zero-*ℤ (pos d))))
sign_of-frac (pos (suc n)) d h = (sign_of-positive (frac (pos (suc n)) d)).1 ((frac-lt (pos 0) (pos (suc n)) 1 d (lit< tt) h).1 (let e : pos 0 *ℤ pos d ≡ pos 0 = zero-*ℤ (pos d) in let f : pos (suc n) *ℤ pos 1 ≡ pos (suc n) = *ℤ_one (pos (suc n)) in omega (arith, ints, e, f))) ∙ sym (one n)
sign_of-frac (negsuc n) d h = (sign_of-negative (frac (negsuc n) d)).1 ((frac-lt (negsuc n) (pos 0) d 1 h (lit< tt)).1 (let e : pos 0 *ℤ pos d ≡ pos 0 = zero-*ℤ (pos d) in let f : negsuc n *ℤ pos 1 ≡ negsuc n = *ℤ_one (negsuc n) in omega (arith, ints, e, f)))

-- a sign as the code casts it
pub sign_read : (n r : ℤ) → r ≡ int_signum n → to_z w8 (of_z w8 (to_z w128 (of_z w128 r))) ≡ int_signum n
sign_read (pos zero) r e = subst (λ s. to_z w8 (of_z w8 (to_z w128 (of_z w128 s))) ≡ pos 0) (sym e) refl
sign_read (pos (suc n)) r e = subst (λ s. to_z w8 (of_z w8 (to_z w128 (of_z w128 s))) ≡ pos 1) (sym (e ∙ one n)) refl ∙ sym (one n)
sign_read (negsuc n) r e = subst (λ s. to_z w8 (of_z w8 (to_z w128 (of_z w128 s))) ≡ negsuc 0) (sym e) refl
