use Rattle.std.proofs.Common.{◌≡◌, pos, All}
use Rattle.frac128.specs.Fraction.{PartFits}
use Rattle.frac128.specs.Steps.{StepFits}
use Rattle.whole_rows.specs.StartRows.{cells_from, common_to, denominator_steps}
use Rattle.whole_rows.proofs.starts.common_denominator.Given as goal

abbrev pub invariant-loop-k : goal.invariant-loop-k
invariant-loop-k l = record { value : l.common ≡ pos (common_to (cells_from l.cells l.from) l.k); fits : PartFits l.common; steps : All StepFits (denominator_steps (cells_from l.cells l.from) l.k) }
