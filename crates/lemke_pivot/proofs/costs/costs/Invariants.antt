use Rattle.std.proofs.Common.{◌≡◌, All, map, take}
use Rattle.frac128.specs.FirstUnfit.{StepsFit}
use Rattle.lemke_pivot.specs.FormProblems.{both_costs, cost_one, cost_two, steps_at}
use Rattle.lemke_pivot.proofs.costs.costs.Given as goal

abbrev pub invariant-loop-cell : goal.invariant-loop-cell
invariant-loop-cell l =
    record {
      one : l.one.items ≡ map (cost_one l.greatest_one) (take l.cell-index l.cells);
      two : l.two.items ≡ map (cost_two l.greatest_two) (take l.cell-index l.cells);
      fit : All (StepsFit (steps_at l.greatest_one l.greatest_two)) (both_costs (take l.cell-index l.cells));
    }
