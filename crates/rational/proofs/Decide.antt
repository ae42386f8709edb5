-- Order and equality of rationals are decidable, and the tests that compute them are right.
use Rattle.std.proofs.Common.{◌≡◌, ◌≢◌, ◌⊎◌, ◌↔◌, inl, inr, Bool, true, false, IsTrue, Decides, T, refl, sym, ap, subst}
use Rattle.std.proofs.lemmas.Bool.Decides.{Decides-and, Decides-eqb, Decides-int_eq, Decides-like}
use Rattle.std.specs.Prelude.{nat_eq}
use Rattle.std.specs.Ordering.{int_eq}
use Rattle.rational.specs.Rational.{ℚ, zero_ℚ, ◌≤ℚ◌, ◌<ℚ◌}
use Rattle.rational.specs.Tests.{le_test, lt_test, eq_ℚ}
use Rattle.rational.proofs.FractionLemmas.{equal_by_parts}
use Rattle.rational.proofs.Field.{le_or_lt, le_antisymm, ne_of_lt, not_lt_of_le}

-- a is b or is not
pub eq_or_ne : (a b : ℚ) → (a ≡ b) ⊎ (a ≢ b)
eq_or_ne a b = elim (le_or_lt a b) [
  | inl l ↦ elim (le_or_lt b a) [ inl k ↦ inl (le_antisymm a b l k) | inr k ↦ inr (ne_of_lt a b k) ]
  | inr k ↦ inr (λ e. ne_of_lt b a k (sym e))
]

-- a is 0 or is not
pub is_zero : (a : ℚ) → (a ≡ zero_ℚ) ⊎ (a ≢ zero_ℚ)
is_zero a = eq_or_ne a zero_ℚ

-- a is below b or is not
pub lt_or_not : (a b : ℚ) → (a <ℚ b) ⊎ (¬ (a <ℚ b))
lt_or_not a b = elim (le_or_lt b a) [ inl l ↦ inr (not_lt_of_le b a l) | inr g ↦ inl g ]

-- ---- tests that compute
T_true : (b : Bool) → T b → b ≡ true
T_true true t = refl
T_true false t = absurd t

-- the test of at most says whether a is at most b
pub le_test-true : (a b : ℚ) → IsTrue (le_test a b) ↔ (a ≤ℚ b)
unfolding le_test
le_test-true a b = (λ e. record { cross = record { le = subst T (sym e) tt } }, λ h. T_true _ h.cross.le)

-- the test of below says whether a is below b
pub lt_test-true : (a b : ℚ) → IsTrue (lt_test a b) ↔ (a <ℚ b)
unfolding lt_test
lt_test-true a b = (λ e. record { cross = record { lt = subst T (sym e) tt } }, λ h. T_true _ h.cross.lt)

-- two rationals are the same where their parts are
pub eq_ℚ-decides : (a b : ℚ) → Decides (eq_ℚ a b) (a ≡ b)
eq_ℚ-decides a b =
    Decides-like (eq_ℚ a b) (λ h. equal_by_parts a b h.0 h.1) (λ e. (ap (λ (x : ℚ). x.num) e, ap (λ (x : ℚ). x.den) e)) (Decides-and (int_eq a.num b.num) (nat_eq a.den b.den) (Decides-int_eq a.num b.num) (Decides-eqb a.den b.den))
