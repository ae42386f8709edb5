-- The steps of the pivot of a tableau, the tableau that it makes where they fit, and its number
use Rattle.std.specs.Prelude.{ℕ, ℤ, ◌+◌, ◌-◌, ◌^◌, min, length, List, All}
use Rattle.frac128.specs.Steps.{Step, StepFits}
use Rattle.whole_rows.specs.Pivots.{pivot_steps}
use Rattle.whole_rows.specs.Lists.{IsPivotAt, AreOthersPivoted}
use Rattle.lex_tableau.specs.Rows.{WholeTableau, size_of, row_of, IsTableau, IsPivotOf}

-- the steps of the pivot of a tableau on a row and a column
abbrev pub steps_of_pivot : WholeTableau → ℕ → ℕ → List Step
steps_of_pivot n row col =
    pivot_steps (size_of n.nonbasics) (row_of n) row (col + 1) (length n.basics)

-- new is the tableau that the pivot makes, and all steps of the pivot fit
pub record IsFittingPivot (n : WholeTableau) (row col : ℕ) (new : WholeTableau) : Type 0 where
  pub is_tableau : IsTableau new
  pub pivot : IsPivotOf n row col new
  pub fits : All StepFits (steps_of_pivot n row col)

-- these numbers have as its row what the pivot makes of it
abbrev pub HasPivotRow : WholeTableau → ℕ → ℕ → List ℤ → Type 0
HasPivotRow n row col new = IsPivotAt n.numbers (size_of n.nonbasics) row (col + 1) new

-- and as the other rows what it makes of them
abbrev pub HasOtherRows : WholeTableau → ℕ → ℕ → List ℤ → Type 0
HasOtherRows n row col new =
    AreOthersPivoted n.numbers (size_of n.nonbasics) row (col + 1) (length n.basics) new

-- the number of a pivot, counted from 1, as it is told: 2 ^ 64 - 1 stands for every later one too
abbrev pub pivot_number : ℕ → ℕ
pivot_number k = min k (2 ^ 64 - 1)
