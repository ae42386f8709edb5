-- The laws of the ring of rationals for `simp`: `simp ring_laws` proves an identity without hypotheses, and `simp ring_cancels` one in which terms cancel. Where these leave something or break off, use `ring`.
use Rattle.std.proofs.Common.{◌≡◌, sym, ap, ◌∙◌}
use Rattle.rational.specs.Rational.{ℚ, ◌+ℚ◌, ◌*ℚ◌, neg_ℚ, zero_ℚ, one_ℚ}
use Rattle.rational.proofs.RationalRing.{rational_ring, +ℚ_assoc, +ℚ_comm, +ℚ-zero, +ℚ-neg, *ℚ_assoc, *ℚ_comm, *ℚ-one, *ℚ-add}
use Rattle.rational.proofs.CommutativeRing as L

-- the first two of three summands change places
pub +ℚ_left_comm : (a b c : ℚ) → a +ℚ (b +ℚ c) ≡ b +ℚ (a +ℚ c)
+ℚ_left_comm a b c = L.add_left_comm rational_ring a b c

-- the first two of three factors change places
pub *ℚ_left_comm : (a b c : ℚ) → a *ℚ (b *ℚ c) ≡ b *ℚ (a *ℚ c)
*ℚ_left_comm a b c = L.mul_left_comm rational_ring a b c

-- 0 before a summand
pub zero-+ℚ : (a : ℚ) → zero_ℚ +ℚ a ≡ a
zero-+ℚ a = L.zero-add rational_ring a

-- a sum times a factor
pub add-*ℚ : (a b c : ℚ) → (a +ℚ b) *ℚ c ≡ (a *ℚ c) +ℚ (b *ℚ c)
add-*ℚ a b c = L.add-mul rational_ring a b c

-- a factor times 1
pub times_one : (a b : ℚ) → b ≡ one_ℚ → a *ℚ b ≡ a
times_one a b e = ap (λ x. a *ℚ x) e ∙ *ℚ-one a

-- 1 times a factor
pub one-*ℚ : (a : ℚ) → one_ℚ *ℚ a ≡ a
one-*ℚ a = L.one-mul rational_ring a

-- a factor times 0
pub *ℚ-zero : (a : ℚ) → a *ℚ zero_ℚ ≡ zero_ℚ
*ℚ-zero a = L.mul-zero rational_ring a

-- 0 times a factor
pub zero-*ℚ : (a : ℚ) → zero_ℚ *ℚ a ≡ zero_ℚ
zero-*ℚ a = L.zero-mul rational_ring a

-- a factor that is 1 or 0
pub one_times : (a b : ℚ) → a ≡ one_ℚ → a *ℚ b ≡ b
one_times a b e = ap (λ x. x *ℚ b) e ∙ one-*ℚ b

pub times_zero : (a b : ℚ) → b ≡ zero_ℚ → a *ℚ b ≡ zero_ℚ
times_zero a b e = ap (λ x. a *ℚ x) e ∙ *ℚ-zero a

pub zero_times : (a b : ℚ) → a ≡ zero_ℚ → a *ℚ b ≡ zero_ℚ
zero_times a b e = ap (λ x. x *ℚ b) e ∙ zero-*ℚ b

-- a factor times a negated one
pub *ℚ-neg : (a b : ℚ) → a *ℚ neg_ℚ b ≡ neg_ℚ (a *ℚ b)
*ℚ-neg a b = L.mul-neg rational_ring a b

-- a negated factor times another
pub neg-*ℚ : (a b : ℚ) → neg_ℚ a *ℚ b ≡ neg_ℚ (a *ℚ b)
neg-*ℚ a b = L.neg-mul rational_ring a b

-- a negated sum
pub neg_ℚ-add : (a b : ℚ) → neg_ℚ (a +ℚ b) ≡ neg_ℚ a +ℚ neg_ℚ b
neg_ℚ-add a b = L.neg-add rational_ring a b

-- a number negated twice
pub neg_ℚ-neg : (a : ℚ) → neg_ℚ (neg_ℚ a) ≡ a
neg_ℚ-neg a = L.neg-neg rational_ring a

-- 0 negated
pub neg_ℚ-zero : neg_ℚ zero_ℚ ≡ zero_ℚ
neg_ℚ-zero = L.neg-zero rational_ring

-- a negated number plus the number
pub neg-+ℚ : (a : ℚ) → neg_ℚ a +ℚ a ≡ zero_ℚ
neg-+ℚ a = L.neg-add_self rational_ring a

-- a number and its negation cancel before a third summand
pub +ℚ-neg_next : (a b : ℚ) → a +ℚ (neg_ℚ a +ℚ b) ≡ b
+ℚ-neg_next a b = sym (+ℚ_assoc a (neg_ℚ a) b) ∙ ap (λ x. x +ℚ b) (+ℚ-neg a) ∙ zero-+ℚ b

-- the same, the negation first
pub neg-+ℚ_next : (a b : ℚ) → neg_ℚ a +ℚ (a +ℚ b) ≡ b
neg-+ℚ_next a b = sym (+ℚ_assoc (neg_ℚ a) a b) ∙ ap (λ x. x +ℚ b) (neg-+ℚ a) ∙ zero-+ℚ b

-- equal sums with one summand in common have equal other summands
pub +ℚ_cancel : (a b c : ℚ) → a +ℚ c ≡ b +ℚ c → a ≡ b
+ℚ_cancel a b c e = L.add_cancel rational_ring a b c e

-- sums of products in one order, with negations inside and with no factor 1, factor 0 or summand 0
pub ruleset ring_laws = (+ℚ_assoc, +ℚ_comm, +ℚ_left_comm, *ℚ_assoc, *ℚ_comm, *ℚ_left_comm, *ℚ-add, add-*ℚ, *ℚ-neg, neg-*ℚ, neg_ℚ-add, neg_ℚ-neg, neg_ℚ-zero, +ℚ-zero, zero-+ℚ, *ℚ-one, one-*ℚ, *ℚ-zero, zero-*ℚ)

-- these, and a number cancels its negation beside it
pub ruleset ring_cancels = (+ℚ-neg, neg-+ℚ, +ℚ-neg_next, neg-+ℚ_next, ring_laws)
