-- The greatest and the least of numbers.
use Rattle.std.specs.Prelude.{◌≡◌, ◌⊎◌, List, All, Any}
use Rattle.rational.specs.Rational.{ℚ, ◌≤ℚ◌}

-- v is the greatest of these numbers
pub record IsGreatest (numbers : List ℚ) (v : ℚ) : Type 0 where
  pub is_one : Any (λ x. x ≡ v) numbers
  pub greatest : All (λ x. x ≤ℚ v) numbers

-- v is the least of these numbers
pub record IsLeast (numbers : List ℚ) (v : ℚ) : Type 0 where
  pub is_one : Any (λ x. x ≡ v) numbers
  pub least : All (λ x. v ≤ℚ x) numbers

-- v is the greater of two numbers
pub record IsGreater (a b v : ℚ) : Type 0 where
  pub is_one : (v ≡ a) ⊎ (v ≡ b)
  pub left : a ≤ℚ v
  pub right : b ≤ℚ v

-- v is the lesser of two numbers
pub record IsLesser (a b v : ℚ) : Type 0 where
  pub is_one : (v ≡ a) ⊎ (v ≡ b)
  pub left : v ≤ℚ a
  pub right : v ≤ℚ b
