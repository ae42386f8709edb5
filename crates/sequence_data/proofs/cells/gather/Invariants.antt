use Rattle.std.proofs.Common.{◌≡◌, All, map, take}
use Rattle.std.specs.List.{enumerate_from}
use Rattle.frac128.specs.FirstUnfit.{StepsFit}
use Rattle.sequence_data.specs.Gathered.{cell_in}
use Rattle.sequence_data.specs.Steps.{leaf_steps}
use Rattle.sequence_data.proofs.cells.gather.Given as goal

abbrev pub invariant-loop-leaf : goal.invariant-loop-leaf
invariant-loop-leaf l = record {
  cells_are : l.cells.items ≡ map (cell_in l.columns (take l.leaf-index l.leaves)) l.places.items;
  steps_fit : All (StepsFit (leaf_steps l.leaves)) (take l.leaf-index (enumerate_from 0 l.leaves));
}
