-- Numbers of cells as a matrix, row by row.
use Rattle.std.specs.Prelude.{ℕ, ◌<◌, ◌≡◌, ◌+◌, ◌*◌, List, map}
use Rattle.std.specs.List.{zip}
use Rattle.rational.specs.Rational.{ℚ}
use Rattle.rational.specs.Sum.{entry_at}
use Rattle.sequence_forms.specs.Lists.{Entry, listed_at}
use Rattle.sequence_forms.specs.Sides.{sequences}
use Rattle.sequence_data.specs.Data.{SideData, side_of}
use Rattle.sequence_data.specs.declared.types.Cell.{Cell}

-- the number at row r and column q of a list that has, row by row, so many numbers in each
abbrev pub number_at : List ℚ → ℕ → ℕ → ℕ → ℚ
number_at numbers columns r q = entry_at numbers (r * columns + q)

-- how many numbers a matrix of two sides has: one for each pair of their sequences
abbrev pub matrix_size : SideData → SideData → ℕ
matrix_size first second = sequences (side_of first) * sequences (side_of second)

-- a cell stands at one of so many rows and columns
abbrev pub IsInside : ℕ → ℕ → Cell → Type 0
IsInside rows columns c = (c.row < rows) × (c.column < columns)

-- each cell with its number
abbrev pub placed : List Cell → List ℚ → List Entry
placed cells numbers = map (λ p. (p.0.row, p.0.column, p.1)) (zip cells numbers)

-- a list has, row by row, the numbers that stand at each row and column
abbrev pub HoldsNumbers : ℕ → ℕ → List Entry → List ℚ → Type 0
HoldsNumbers rows columns entries matrix =
    (r q : ℕ) → r < rows → q < columns → number_at matrix columns r q ≡ listed_at entries r q
