use Rattle.std.proofs.Common.{◌≡◌, All, map, take}
use Rattle.frac128.specs.FirstUnfit.{StepsFit}
use Rattle.zero_sum_lp.specs.FormPrograms.{cell_gain, gain_steps}
use Rattle.zero_sum_lp.proofs.gains.gains.Given as goal

abbrev pub invariant-loop-cell : goal.invariant-loop-cell
invariant-loop-cell l =
    record {
      made : l.gains.items ≡ map (cell_gain l.least) (take l.cell-index l.cells);
      fit : All (StepsFit (gain_steps l.least)) (take l.cell-index l.cells);
    }
