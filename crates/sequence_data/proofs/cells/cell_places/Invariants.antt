use Rattle.std.proofs.Common.{◌≡◌, map, take}
use Rattle.sequence_data.specs.Gathered.{cell_place}
use Rattle.sequence_data.proofs.cells.cell_places.Given as goal

abbrev pub invariant-loop-leaf : goal.invariant-loop-leaf
invariant-loop-leaf l = l.places.items ≡ map (cell_place l.columns) (take l.leaf-index l.leaves)
