-- Tableaux of whole numbers, and the tableaux of fractions that they stand for
use Rattle.std.specs.Prelude.{ℕ, ℤ, ◌+◌, ◌*◌, ◌<◌, ◌≤◌, ◌≡◌, ◌↔◌, List, length, get_or, slice_set}
use Rattle.rational.specs.Rational.{ℚ}
use Rattle.linear_systems.specs.Tableau.{Tableau, Solves, pivot}
use Rattle.linear_systems.specs.Rows.{Alike}
use Rattle.linear_systems.specs.RowEquivalence.{IsStart, IsRowEquivalent}
pub use Rattle.whole_rows.specs.Rows.{from_place, fraction, IsRow}

-- what contracts see of a tableau: the start's basic variables, the basic and nonbasic variables,
-- how many rows are rated, and the numbers row by row
pub record WholeTableau : Type 0 where
  pub starts : List ℕ
  pub basics : List ℕ
  pub nonbasics : List ℕ
  pub rated : ℕ
  pub numbers : List ℤ

-- such a value, from its parts
abbrev pub whole_tableau : List ℕ → List ℕ → List ℕ → ℕ → List ℤ → WholeTableau
whole_tableau starts basics nonbasics rated numbers =
    record {
      starts = starts;
      basics = basics;
      nonbasics = nonbasics;
      rated = rated;
      numbers = numbers;
    }

-- how many numbers a row has, with these nonbasic variables
abbrev pub size_of : List ℕ → ℕ
size_of nonbasics = length nonbasics + 2

-- the numbers of a row
abbrev pub row_of : WholeTableau → ℕ → ℕ → ℤ
row_of n i = from_place n.numbers (i * size_of n.nonbasics)

-- the tableau of fractions with these variables and numbers
abbrev pub tableau_of : List ℕ → List ℕ → List ℤ → Tableau
tableau_of basics nonbasics numbers =
    record {
      rows = length basics;
      width = length nonbasics;
      basic = λ i. get_or basics i 0;
      nonbasic = λ j. get_or nonbasics j 0;
      cell = λ i j. fraction (from_place numbers (i * size_of nonbasics)) (j + 1);
      right = λ i. fraction (from_place numbers (i * size_of nonbasics)) (length nonbasics + 1);
    }

-- the tableau of fractions
abbrev pub tableau : WholeTableau → Tableau
tableau n = tableau_of n.basics n.nonbasics n.numbers

-- t is row-equivalent to a start with these basic variables, as pivots on its first `rated` rows
-- keep it
pub record IsRowEquivalentToStart (rated : ℕ) (starts : List ℕ) (t : Tableau) : Type 0 where
  pub bound : ℕ
  pub start : Tableau
  pub begins : IsStart bound rated start
  pub basics : (i : ℕ) → i < rated → start.basic i ≡ get_or starts i 0
  pub reached : IsRowEquivalent bound rated start t

-- a tableau: each row is one, and it is row-equivalent to a start
pub record IsTableau (n : WholeTableau) : Type 0 where
  pub starts : length n.starts ≡ length n.basics
  pub rated : n.rated ≤ length n.basics
  pub shape : length n.numbers ≡ length n.basics * size_of n.nonbasics
  pub rows : (i : ℕ) → i < length n.basics → IsRow (size_of n.nonbasics) (row_of n i)
  pub reached : IsRowEquivalentToStart n.rated n.starts (tableau n)

-- a tableau whose numbers are others, and whose basic variable of a row and nonbasic variable of a
-- column have changed places
abbrev pub with_variables_exchanged : WholeTableau → ℕ → ℕ → List ℤ → WholeTableau
with_variables_exchanged n row col numbers =
    record {
      starts = n.starts;
      basics = slice_set n.basics row (get_or n.nonbasics col 0);
      nonbasics = slice_set n.nonbasics col (get_or n.basics row 0);
      rated = n.rated;
      numbers = numbers;
    }

-- the pivot of a tableau: its fractions are those of the pivot, and the start's variables and the
-- number of rated rows stay
pub record IsPivotOf (n : WholeTableau) (row col : ℕ) (new : WholeTableau) : Type 0 where
  pub fractions : Alike (pivot (tableau n) row col) (tableau new)
  pub starts : new.starts ≡ n.starts
  pub rated : new.rated ≡ n.rated

-- the two have the same solutions
abbrev pub HasSolutionsOf : WholeTableau → WholeTableau → Type 0
HasSolutionsOf n new = (x : ℕ → ℚ) → Solves (tableau n) x ↔ Solves (tableau new) x
