-- Rows of whole numbers that stand for fractions: at place 0 the coefficient of the row's basic
-- variable, then one number for each column, and last the right side. The fraction at a place is
-- the number there over the coefficient (integer pivoting: Edmonds 1967, Bareiss 1968; Avis's lrs
-- keeps one common denominator, here each row has its own).
use Rattle.std.specs.Prelude.{ℕ, ℤ, pos, ◌+◌, ◌<◌, ◌≡◌, ◌<ℤ◌, nat_abs, List, get_or}
use Rattle.std.specs.Int.{◌∣◌}
use Rattle.rational.specs.Rational.{ℚ, frac}
use Rattle.frac128.specs.Fraction.{PartFits}

-- the numbers from a place of a list on
abbrev pub from_place : List ℤ → ℕ → ℕ → ℤ
from_place numbers first place = get_or numbers (first + place) (pos 0)

-- the fraction at a place of a row: the number there over the coefficient of the basic variable
abbrev pub fraction : (ℕ → ℤ) → ℕ → ℚ
fraction row place = frac (row place) (nat_abs (row 0))

-- g is the greatest common divisor of the first `size` numbers of a row
pub record IsGreatestDivisor (row : ℕ → ℤ) (size g : ℕ) : Type 0 where
  pub positive : 0 < g
  pub divides : (place : ℕ) → place < size → g ∣ nat_abs (row place)
  pub greatest : (d : ℕ) → ((place : ℕ) → place < size → d ∣ nat_abs (row place)) → d ∣ g

-- a row of so many numbers: its coefficient is positive, each number is a part that fits, and 1
-- alone divides all of them
pub record IsRow (size : ℕ) (row : ℕ → ℤ) : Type 0 where
  pub positive : pos 0 <ℤ row 0
  pub fits : (place : ℕ) → place < size → PartFits (row place)
  pub lowest : (d : ℕ) → ((place : ℕ) → place < size → d ∣ nat_abs (row place)) → d ≡ 1
