-- The systems whose bases are enumerated
use Rattle.std.specs.Prelude.{ℕ, ◌+◌, ◌<◌, ◌≤◌, ◌≡◌, ◌↔◌, length}
use Rattle.rational.specs.Rational.{zero_ℚ, ◌≤ℚ◌}
use Rattle.linear_systems.specs.RowEquivalence.{IsVariableOf}
use Rattle.lex_tableau.specs.Starts.{LinearSystem, system_of}

-- the most variables of a system whose bases are enumerated: so many digits a basis has
abbrev pub most_variables : ℕ
most_variables = 128

-- how many variables a system has
abbrev pub variable_count : LinearSystem → ℕ
variable_count s = length s.basics + length s.nonbasics

-- all rows are rated, there are not too many variables, which are the numbers from 1 on, and right
-- sides are not negative
pub record IsEnumerable (s : LinearSystem) : Type 0 where
  pub rated : s.rated ≡ length s.basics
  pub few : variable_count s ≤ most_variables
  pub numbered : (v : ℕ)
      → IsVariableOf (system_of s) v ↔ ((0 < v) × (v ≤ variable_count s))
  pub right : (i : ℕ) → i < length s.basics → zero_ℚ ≤ℚ (system_of s).right i
