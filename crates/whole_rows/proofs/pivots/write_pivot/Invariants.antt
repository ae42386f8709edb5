use Rattle.std.proofs.Common.{◌≢◌, ℕ, ◌<◌, ◌*◌, All}
use Rattle.whole_rows.specs.Rows.{from_place}
use Rattle.frac128.specs.Steps.{StepFits}
use Rattle.whole_rows.specs.Pivots.{pivot_steps}
use Rattle.whole_rows.specs.PivotedRows.{IsPivotedRow, IsPivotRow}
use Rattle.whole_rows.proofs.pivots.write_pivot.Given as goal

abbrev pub invariant-loop-i : goal.invariant-loop-i
invariant-loop-i l = record { pivot_row : l.row < l.i → IsPivotRow l.size (from_place l.numbers (l.row * l.size)) l.column (from_place l.spare (l.row * l.size)); others : (i : ℕ) → i < l.i → i ≢ l.row → IsPivotedRow l.size (from_place l.numbers (i * l.size)) (from_place l.numbers (l.row * l.size)) l.column (from_place l.spare (i * l.size)); fits : All StepFits (pivot_steps l.size (λ i. from_place l.numbers (i * l.size)) l.row l.column l.i) }
