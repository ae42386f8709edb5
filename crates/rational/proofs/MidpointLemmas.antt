-- The midpoint of two numbers.
use Rattle.std.proofs.Common.{◌≡◌, ◌↔◌, ap, ◌∙◌, pos, [], ◌∷◌, arith}
use Rattle.std.proofs.lemmas.Int.{ints}
use Rattle.rational.specs.Rational.{ℚ, ◌+ℚ◌, zero_ℚ, ◌<ℚ◌}
use Rattle.rational.specs.Midpoint.{half, midpoint}
use Rattle.rational.proofs.Linear.{linear, at, lit, ◌⟨+⟩◌, ◌⟨<⟩◌, ◌⟨=⟩◌}
use Rattle.rational.proofs.Field.{two_halves, half_twice}

-- a midpoint and itself make the sum of both numbers
pub midpoint_twice : (a b : ℚ) → midpoint a b +ℚ midpoint a b ≡ a +ℚ b
midpoint_twice a b = half_twice (a +ℚ b)

-- the only such number
pub midpoint_unique : (a b m : ℚ) → m +ℚ m ≡ a +ℚ b → m ≡ midpoint a b
midpoint_unique a b m e =
    linear (a ∷ b ∷ m ∷ midpoint a b ∷ []) (((at 2 ⟨+⟩ at 2) ⟨=⟩ (at 0 ⟨+⟩ at 1)) ∷ ((at 3 ⟨+⟩ at 3) ⟨=⟩ (at 0 ⟨+⟩ at 1)) ∷ []) (at 2 ⟨=⟩ at 3) (λ one z p h. omega (arith, ints)) (e, (midpoint_twice a b, tt))

-- m is the midpoint exactly where twice m is the sum
pub midpoint_is : (a b m : ℚ) → (m ≡ midpoint a b) ↔ (m +ℚ m ≡ a +ℚ b)
midpoint_is a b m = (λ e. ap (λ x. x +ℚ x) e ∙ midpoint_twice a b, midpoint_unique a b m)

-- the midpoint lies above the lesser number
pub midpoint_above : (a b : ℚ) → a <ℚ b → a <ℚ midpoint a b
midpoint_above a b h =
    linear (a ∷ b ∷ midpoint a b ∷ []) ((at 0 ⟨<⟩ at 1) ∷ ((at 2 ⟨+⟩ at 2) ⟨=⟩ (at 0 ⟨+⟩ at 1)) ∷ []) (at 0 ⟨<⟩ at 2) (λ one z p h. omega (arith, ints)) (h, (midpoint_twice a b, tt))

-- the midpoint lies below the greater number
pub midpoint_below : (a b : ℚ) → a <ℚ b → midpoint a b <ℚ b
midpoint_below a b h =
    linear (a ∷ b ∷ midpoint a b ∷ []) ((at 0 ⟨<⟩ at 1) ∷ ((at 2 ⟨+⟩ at 2) ⟨=⟩ (at 0 ⟨+⟩ at 1)) ∷ []) (at 2 ⟨<⟩ at 1) (λ one z p h. omega (arith, ints)) (h, (midpoint_twice a b, tt))

-- one half is positive
pub half_pos : zero_ℚ <ℚ half
half_pos =
    linear (half ∷ []) (((at 0 ⟨+⟩ at 0) ⟨=⟩ lit (pos 1)) ∷ []) (lit (pos 0) ⟨<⟩ at 0) (λ one z p h. omega (arith, ints)) (two_halves, tt)
