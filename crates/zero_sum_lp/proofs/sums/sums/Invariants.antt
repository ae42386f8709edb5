use Rattle.std.proofs.Common.{◌≡◌, All, map, take}
use Rattle.frac128.specs.FirstUnfit.{StepsFit}
use Rattle.zero_sum_lp.specs.FormPrograms.{sum_at, leaf_sum_steps}
use Rattle.zero_sum_lp.proofs.sums.sums.Given as goal

abbrev pub invariant-loop-leaf : goal.invariant-loop-leaf
invariant-loop-leaf l =
    record {
      made : l.sums.items ≡ map sum_at (take l.leaf-index l.leaves);
      fit : All (StepsFit leaf_sum_steps) (take l.leaf-index l.leaves);
    }
