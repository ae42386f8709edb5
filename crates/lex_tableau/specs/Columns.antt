-- The columns in which the variables of a start stand
use Rattle.std.specs.Prelude.{ℕ, zero, suc, ◌<◌, ◌≡◌, List, length, get_or, Some, None}
use Rattle.lists.specs.Listed.{IsIndexOf}

-- the column in which a variable stands, counted from 1, and 0 where it stands in none
abbrev pub IsColumnOf : List ℕ → ℕ → ℕ → Type 0
IsColumnOf nonbasics variable zero = IsIndexOf nonbasics variable None
IsColumnOf nonbasics variable (suc j) = IsIndexOf nonbasics variable (Some j)

-- the column of each of these variables
pub record AreColumnsOf (nonbasics starts columns : List ℕ) : Type 0 where
  pub one_for_each : length columns ≡ length starts
  pub columns_are : (q : ℕ) → q < length starts
      → IsColumnOf nonbasics (get_or starts q 0) (get_or columns q 0)
