-- The laws of the whole numbers as a commutative ring; the usual axioms.
use Rattle.std.specs.Prelude.{◌≡◌, ℤ, pos, neg_ℤ, ◌+ℤ◌, ◌*ℤ◌}

-- the eight laws of a commutative ring, for the whole numbers
pub record WholeNumbersAreARing : Type 0 where
  pub add_assoc : (a b c : ℤ) → (a +ℤ b) +ℤ c ≡ a +ℤ (b +ℤ c)
  pub add_comm : (a b : ℤ) → a +ℤ b ≡ b +ℤ a
  pub add-zero : (a : ℤ) → a +ℤ pos 0 ≡ a
  pub add-neg : (a : ℤ) → a +ℤ neg_ℤ a ≡ pos 0
  pub mul_assoc : (a b c : ℤ) → (a *ℤ b) *ℤ c ≡ a *ℤ (b *ℤ c)
  pub mul_comm : (a b : ℤ) → a *ℤ b ≡ b *ℤ a
  pub mul-one : (a : ℤ) → a *ℤ pos 1 ≡ a
  pub mul-add : (a b c : ℤ) → a *ℤ (b +ℤ c) ≡ (a *ℤ b) +ℤ (a *ℤ c)
