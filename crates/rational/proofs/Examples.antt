-- First examples: numbers that compute, and one use of each prover.
use Rattle.std.proofs.Common.{◌-◌, ◌^◌, true, false, ◌≡◌, ◌≢◌, pos, negsuc, [], ◌∷◌, refl, arith}
use Rattle.std.proofs.lemmas.Int.{ints}
use Rattle.rational.specs.Gcd.{gcd}
use Rattle.rational.specs.Rational.{ℚ, frac, is_lowest, whole, ◌+ℚ◌, ◌*ℚ◌, ◌-ℚ◌, inv_ℚ, zero_ℚ, one_ℚ, ◌≤ℚ◌, ◌<ℚ◌}
use Rattle.rational.proofs.RationalRing.{rational_ring}
use Rattle.rational.specs.Tests.{le_test, lt_test, eq_ℚ}
use Rattle.rational.proofs.Decide.{lt_test-true}
use Rattle.rational.proofs.Rules.{ring_laws, ring_cancels}
use Rattle.rational.proofs.Ring.{ring, combine, ◌times◌is◌, num, ◌:+◌, ◌:*◌, ◌:-◌, A, B, C, D}
use Rattle.rational.proofs.Linear.{linear, linear_contradiction, at, lit, ◌⟨+⟩◌, ◌⟨*⟩◌, ◌⟨≤⟩◌, ◌⟨<⟩◌, ◌⟨=⟩◌}
use Rattle.rational.proofs.Field.{*ℚ-inv}

-- ---- numbers compute
-- the greatest common divisor, also of numbers of 127 bits
gcd_computes : (gcd 12 18 ≡ 6) × (gcd (2 ^ 127 - 1) (2 ^ 126 - 6) ≡ 1)
unfolding gcd
gcd_computes = (refl, refl)

-- 1/2 + 1/3 = 5/6
sum_computes : frac (pos 1) 2 +ℚ frac (pos 1) 3 ≡ frac (pos 5) 6
unfolding frac ◌+ℚ◌ gcd is_lowest
sum_computes = refl

-- 2/3 times -3/4 = -1/2
product_computes : frac (pos 2) 3 *ℚ frac (negsuc 2) 4 ≡ frac (negsuc 0) 2
unfolding frac ◌*ℚ◌ gcd is_lowest
product_computes = refl

-- the inverse of -2/3 is -3/2
inverse_computes : inv_ℚ (frac (negsuc 1) 3) ≡ frac (negsuc 2) 2
unfolding frac inv_ℚ gcd is_lowest
inverse_computes = refl

-- tests of order and equality at literals: 1/3 < 1/2, 2/4 = 1/2, and not 1/2 <= 1/3
tests_compute : (lt_test (frac (pos 1) 3) (frac (pos 1) 2) ≡ true) × (eq_ℚ (frac (pos 2) 4) (frac (pos 1) 2) ≡ true) × (le_test (frac (pos 1) 2) (frac (pos 1) 3) ≡ false)
unfolding lt_test le_test frac gcd is_lowest
tests_compute = (refl, refl, refl)

-- an order at literals, by its test
third_below_half : frac (pos 1) 3 <ℚ frac (pos 1) 2
unfolding lt_test frac gcd is_lowest
third_below_half = (lt_test-true (frac (pos 1) 3) (frac (pos 1) 2)).0 refl

-- ---- identities
-- an identity without hypotheses
square_of_sum : (a b : ℚ) → (a +ℚ b) *ℚ (a +ℚ b) ≡ (a *ℚ a) +ℚ (a *ℚ b) +ℚ (a *ℚ b) +ℚ (b *ℚ b)
square_of_sum a b = simp ring_laws

-- an identity in which terms cancel
difference_of_squares : (a b : ℚ) → (a +ℚ b) *ℚ (a -ℚ b) ≡ (a *ℚ a) -ℚ (b *ℚ b)
difference_of_squares a b = simp ring_cancels

-- the same with the factors exchanged by `ring`, which takes the atoms and both sides
squares_exchanged : (a b : ℚ) → (a -ℚ b) *ℚ (a +ℚ b) ≡ (a *ℚ a) -ℚ (b *ℚ b)
squares_exchanged a b = ring rational_ring (a ∷ b ∷ []) ((A :- B) :* (A :+ B)) (A :* A :- B :* B) refl

-- a common factor p is taken away: the difference of the sides is inv p times the first equation, and a - b times that of the inverse
cancelled : (a b p : ℚ) → p ≢ zero_ℚ → a *ℚ p ≡ b *ℚ p → a ≡ b
cancelled a b p ne e =
    combine rational_ring (a ∷ b ∷ p ∷ inv_ℚ p ∷ []) ((D times A :* C is B :* C) ∷ (B :- A times C :* D is num 1) ∷ []) A B refl (e, (*ℚ-inv p ne, tt))

-- ---- inequalities
-- m lies below the greater of two numbers whose sum is twice m
middle_below : (a b m : ℚ) → a <ℚ b → whole (pos 2) *ℚ m ≡ a +ℚ b → m <ℚ b
middle_below a b m h e =
    linear (a ∷ b ∷ m ∷ []) ((at 0 ⟨<⟩ at 1) ∷ ((pos 2 ⟨*⟩ at 2) ⟨=⟩ (at 0 ⟨+⟩ at 1)) ∷ []) (at 2 ⟨<⟩ at 1) (λ one z p h. omega (arith, ints)) (h, (e, tt))

-- no number of at least 1 has a double below 1
not_both : (a : ℚ) → one_ℚ ≤ℚ a → (a +ℚ a) <ℚ one_ℚ → ⊥
not_both a h g =
    linear_contradiction (a ∷ []) ((lit (pos 1) ⟨≤⟩ at 0) ∷ ((at 0 ⟨+⟩ at 0) ⟨<⟩ lit (pos 1)) ∷ []) (λ one z p h. omega (arith, ints)) (h, (g, tt))
