use Rattle.std.proofs.Common.{ℕ, ◌<◌, ◌*◌, ◌+◌, All}
use Rattle.whole_rows.specs.Rows.{from_place}
use Rattle.frac128.specs.Steps.{StepFits}
use Rattle.whole_rows.specs.StartRows.{cells_from, start_row_steps, IsStartRow}
use Rattle.whole_rows.proofs.starts.write_starts.Given as goal

abbrev pub invariant-loop-i : goal.invariant-loop-i
invariant-loop-i l = record { written : (j : ℕ) → j < l.i → IsStartRow l.count (cells_from l.cells (j * l.count)) (from_place l.numbers (j * (l.count + 1))); fits : (j : ℕ) → j < l.i → All StepFits (start_row_steps l.count (cells_from l.cells (j * l.count))) }
