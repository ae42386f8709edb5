-- Cells while they are summed up.
use Rattle.std.specs.Prelude.{ℕ, ◌+◌, ◌*◌, ◌/◌, ◌%◌, ◌≡◌, List, All, Any, Contains}
use Rattle.std.specs.List.Sorted.{IsStrictlyIncreasing}
use Rattle.rational.specs.Rational.{◌+ℚ◌, ◌*ℚ◌}
use Rattle.sequence_data.specs.declared.types.Leaf.{Leaf}
use Rattle.sequence_data.specs.declared.types.Cell.{Cell}
use Rattle.sequence_data.specs.Cells.{cell_at}

-- the place of a leaf's cell, where the cells stand row by row with so many columns
abbrev pub cell_place : ℕ → Leaf → ℕ
cell_place columns l = l.row * columns + l.column

-- the cell at a place
abbrev pub cell_in : ℕ → List Leaf → ℕ → Cell
cell_in columns leaves k = cell_at leaves (k / columns) (k % columns)

-- the places of the leaves, each once, in order
pub record ArePlaces (columns : ℕ) (leaves : List Leaf) (places : List ℕ) : Type 0 where
  pub in_order : IsStrictlyIncreasing places
  pub of_leaves : All (λ k. Any (λ l. cell_place columns l ≡ k) leaves) places
  pub of_each : All (λ l. Contains places (cell_place columns l)) leaves

-- a cell with one more leaf
abbrev pub added_cell : Cell → Leaf → Cell
added_cell c l =
    record {
      row = c.row;
      column = c.column;
      weight = c.weight +ℚ l.chance;
      one = c.one +ℚ (l.chance *ℚ l.one);
      two = c.two +ℚ (l.chance *ℚ l.two);
    }
