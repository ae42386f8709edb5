use Rattle.std.proofs.Common.{◌≡◌, ℕ, ◌<◌, ◌≤◌, ◌+◌, ◌⊎◌, ◌/◌, ◌*ℤ◌, pos, get_or, All}
use Rattle.frac128.specs.Fraction.{PartFits}
use Rattle.whole_rows.specs.Rows.{from_place}
use Rattle.frac128.specs.Steps.{StepFits}
use Rattle.whole_rows.specs.StartRows.{cells_from, common_to, numerator_steps}
use Rattle.whole_rows.proofs.starts.write_over.Given as goal

abbrev pub invariant-loop-k : goal.invariant-loop-k
invariant-loop-k l = record { kept : (k : ℕ) → (k < l.to) ⊎ (l.to + (l.k + 1) ≤ k) → get_or l.numbers k (pos 0) ≡ get_or l.fn.numbers k (pos 0); lead : from_place l.numbers l.to 0 ≡ l.common; written : (k : ℕ) → k < l.k → (from_place l.numbers l.to (k + 1) ≡ (cells_from l.cells l.from k).num *ℤ pos (common_to (cells_from l.cells l.from) l.count / (cells_from l.cells l.from k).den)) × PartFits (from_place l.numbers l.to (k + 1)); fits : All StepFits (numerator_steps (cells_from l.cells l.from) (common_to (cells_from l.cells l.from) l.count) l.k) }
