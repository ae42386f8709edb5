-- A basis as a number of 128 binary digits: digit v is 1 where variable v is not basic, and
-- variable 1 has the highest
use Rattle.std.specs.Prelude.{ℕ, ◌↔◌, ◌-◌, ◌^◌, ◌<◌, ◌≤◌, ◌≡◌, List, length, get_or, slice_set}
use Rattle.std.specs.List.{Contains, sum_by}
use Rattle.linear_systems.specs.RowEquivalence.{IsVariableOf}
use Rattle.lex_tableau.specs.Rows.{WholeTableau, tableau}
use Rattle.basis_enum.specs.Systems.{most_variables}

-- what the digit of variable v counts
abbrev pub digit : ℕ → ℕ
digit v = 2 ^ (most_variables - v)

-- the basis that has these nonbasic variables
abbrev pub basis_of : List ℕ → ℕ
basis_of nonbasics = sum_by digit nonbasics

-- the basis after the variables of a row and a column have changed places
abbrev pub neighbour_of : WholeTableau → ℕ → ℕ → ℕ
neighbour_of t row column = basis_of (slice_set t.nonbasics column (get_or t.basics row 0))

-- variables that have digits, each once
pub record AreVariables (variables : List ℕ) : Type 0 where
  pub above : (v : ℕ) → Contains variables v → 0 < v
  pub most : (v : ℕ) → Contains variables v → v ≤ most_variables
  pub once : (i j : ℕ) → i < length variables → j < length variables
      → get_or variables i 0 ≡ get_or variables j 0 → i ≡ j

-- the variables of a tableau have digits
abbrev pub HaveDigits : WholeTableau → Type 0
HaveDigits t = (v : ℕ) → IsVariableOf (tableau t) v → (0 < v) × (v ≤ most_variables)

-- v is the first variable in which the two differ, and it is basic where the nonbasic ones are xs:
-- so the ascending list of those basic variables is the less one
pub record ComesFirst (xs ys : List ℕ) : Type 0 where
  pub variable : ℕ
  pub basic : ¬ (Contains xs variable)
  pub nonbasic : Contains ys variable
  pub before : (v : ℕ) → v < variable → Contains xs v ↔ Contains ys v
