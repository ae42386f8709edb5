-- The cells of a sequence form: sums over the leaves by row and column. Source: von Stengel 1996.
use Rattle.std.specs.Prelude.{ℕ, ◌<◌, ◌≡◌, ◌⊎◌, List, map, slice_get, All, Any, Some}
use Rattle.rational.specs.Rational.{ℚ, ◌*ℚ◌}
use Rattle.sequence_forms.specs.Lists.{Entry, listed_at}
use Rattle.sequence_data.specs.declared.types.Leaf.{Leaf}
use Rattle.sequence_data.specs.declared.types.Cell.{Cell}

-- a number of each leaf, at its row and column
abbrev pub placed_numbers : (Leaf → ℚ) → List Leaf → List Entry
placed_numbers f leaves = map (λ l. (l.row, l.column, f l)) leaves

-- its sum over the leaves at a row and column
abbrev pub total : (Leaf → ℚ) → List Leaf → ℕ → ℕ → ℚ
total f leaves r q = listed_at (placed_numbers f leaves) r q

-- chance times the payoff of the first player
abbrev pub chance_one : Leaf → ℚ
chance_one l = l.chance *ℚ l.one

-- chance times the payoff of the second player
abbrev pub chance_two : Leaf → ℚ
chance_two l = l.chance *ℚ l.two

-- the cell at row r and column q
abbrev pub cell_at : List Leaf → ℕ → ℕ → Cell
cell_at leaves r q =
    record {
      row = r;
      column = q;
      weight = total (λ l. l.chance) leaves r q;
      one = total chance_one leaves r q;
      two = total chance_two leaves r q;
    }

-- cell c comes before cell d: rows in order, and in each the columns
abbrev pub IsBefore : Cell → Cell → Type 0
IsBefore c d = (c.row < d.row) ⊎ ((c.row ≡ d.row) × (c.column < d.column))

-- in ascending order, each once
abbrev pub AreCellsInOrder : List Cell → Type 0
AreCellsInOrder cells = (i j : ℕ) (c d : Cell) → i < j → slice_get cells i ≡ Some c
    → slice_get cells j ≡ Some d → IsBefore c d

-- a leaf stands at a cell's row and column
abbrev pub IsAt : Cell → Leaf → Type 0
IsAt c l = (l.row ≡ c.row) × (l.column ≡ c.column)

-- one cell for each row and column of a leaf, in order: the sums of the leaves there
pub record AreCells (leaves : List Leaf) (cells : List Cell) : Type 0 where
  pub in_order : AreCellsInOrder cells
  pub are_sums : All (λ c. c ≡ cell_at leaves c.row c.column) cells
  pub of_leaves : All (λ c. Any (IsAt c) leaves) cells
  pub of_each : All (λ l. Any (λ c. IsAt c l) cells) leaves
