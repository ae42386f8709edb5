-- The row player and the column player are two players.
use Rattle.convert_tables.specs.declared.cells.Axes.{Axes}
use Rattle.convert_tables.proofs.CellPlaceLemmas.{AreAxes}

-- the axes are those of the table
pub are_axes : (l : Axes) → AreAxes l.table.now l.row l.column
are_axes l = record { valid = l.valid; row_in = l.row_in; column_in = l.column_in; apart = l.apart }
