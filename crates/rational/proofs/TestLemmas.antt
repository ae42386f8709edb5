-- The order, equality and sign that code answers, in the words of ◌<ℚ◌ and ◌≡◌.
use Rattle.std.proofs.Common.{◌≡◌, ◌↔◌, ℤ, pos, negsuc, ◌*ℤ◌, ◌<ℤ◌, arith, sym, ap₂, subst, Ordering, Less, Equal, Greater}
use Rattle.std.specs.Int.{int_signum}
use Rattle.std.specs.Ordering.{MatchOrdering}
use Rattle.std.specs.Cmp.{int_cmp_is, int_ranks}
use Rattle.std.proofs.lemmas.Int.{ints}
use Rattle.rational.specs.Rational.{ℚ, zero_ℚ, ◌<ℚ◌}
use Rattle.rational.specs.Tests.{cmp_ℚ, sign_of}
use Rattle.rational.proofs.FractionLemmas.{equal_by_cross}
use Rattle.rational.proofs.PartLemmas.{pos-num, zero-num, negative-num}

-- ---- order
-- the order of two rationals, in the words of ◌<ℚ◌ and ◌≡◌
pub cmp_ℚ_ranks : (a b : ℚ) → MatchOrdering (cmp_ℚ a b) (a <ℚ b) (a ≡ b) (b <ℚ a)
cmp_ℚ_ranks a b = ranks (cmp_ℚ a b) (int_ranks (a.num *ℤ pos b.den) (b.num *ℤ pos a.den))
  where
    ranks : (o : Ordering) → MatchOrdering o ((a.num *ℤ pos b.den) <ℤ (b.num *ℤ pos a.den)) (a.num *ℤ pos b.den ≡ b.num *ℤ pos a.den) ((b.num *ℤ pos a.den) <ℤ (a.num *ℤ pos b.den)) → MatchOrdering o (a <ℚ b) (a ≡ b) (b <ℚ a)
    ranks Less h = record { cross = h }
    ranks Equal h = equal_by_cross a b h
    ranks Greater h = record { cross = h }

-- less is ◌<ℚ◌
pub cmp_ℚ-less : (a b : ℚ) → (cmp_ℚ a b ≡ Less) ↔ (a <ℚ b)
cmp_ℚ-less a b =
    (λ e. subst (λ o. MatchOrdering o (a <ℚ b) (a ≡ b) (b <ℚ a)) e (cmp_ℚ_ranks a b), λ h. sym (int_cmp_is (a.num *ℤ pos b.den) (b.num *ℤ pos a.den) Less h.cross))

-- equal is ◌≡◌
pub cmp_ℚ-equal : (a b : ℚ) → (cmp_ℚ a b ≡ Equal) ↔ (a ≡ b)
cmp_ℚ-equal a b =
    (λ e. subst (λ o. MatchOrdering o (a <ℚ b) (a ≡ b) (b <ℚ a)) e (cmp_ℚ_ranks a b), λ h. sym (int_cmp_is (a.num *ℤ pos b.den) (b.num *ℤ pos a.den) Equal (ap₂ (λ (x y : ℚ). x.num *ℤ pos y.den) h (sym h))))

-- greater is ◌<ℚ◌ the other way
pub cmp_ℚ-greater : (a b : ℚ) → (cmp_ℚ a b ≡ Greater) ↔ (b <ℚ a)
cmp_ℚ-greater a b =
    (λ e. subst (λ o. MatchOrdering o (a <ℚ b) (a ≡ b) (b <ℚ a)) e (cmp_ℚ_ranks a b), λ h. sym (int_cmp_is (a.num *ℤ pos b.den) (b.num *ℤ pos a.den) Greater h.cross))

-- ---- signs
-- the sign of a positive number
signum_one : (n : ℤ) → (int_signum n ≡ pos 1) ↔ (pos 0 <ℤ n)
signum_one (pos n) = (λ e. omega (arith, ints, e), λ h. omega (arith, ints))
signum_one (negsuc n) = (λ e. absurd (cc), λ h. absurd (omega (arith, ints)))

-- the sign of zero
signum_zero : (n : ℤ) → (int_signum n ≡ pos 0) ↔ (n ≡ pos 0)
signum_zero (pos n) = (λ e. omega (arith, ints, e), λ h. omega (arith, ints, h))
signum_zero (negsuc n) = (λ e. absurd (cc), λ h. absurd (cc))

-- the sign of a negative number
signum_minus : (n : ℤ) → (int_signum n ≡ negsuc 0) ↔ (n <ℤ pos 0)
signum_minus (pos n) = (λ e. absurd (cc), λ h. absurd (omega (arith, ints)))
signum_minus (negsuc n) = (λ e. omega (arith, ints), λ h. omega (arith, ints))

-- 1 is the sign of the positive rationals
pub sign_of-positive : (q : ℚ) → (sign_of q ≡ pos 1) ↔ (zero_ℚ <ℚ q)
sign_of-positive q = (λ e. (pos-num q).1 ((signum_one q.num).0 e), λ h. (signum_one q.num).1 ((pos-num q).0 h))

-- 0 is the sign of zero
pub sign_of-zero : (q : ℚ) → (sign_of q ≡ pos 0) ↔ (q ≡ zero_ℚ)
sign_of-zero q = (λ e. (zero-num q).1 ((signum_zero q.num).0 e), λ h. (signum_zero q.num).1 ((zero-num q).0 h))

-- -1 is the sign of the negative rationals
pub sign_of-negative : (q : ℚ) → (sign_of q ≡ negsuc 0) ↔ (q <ℚ zero_ℚ)
sign_of-negative q = (λ e. (negative-num q).1 ((signum_minus q.num).0 e), λ h. (signum_minus q.num).1 ((negative-num q).0 h))
