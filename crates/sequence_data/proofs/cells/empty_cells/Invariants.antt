use Rattle.std.proofs.Common.{◌≡◌, [], map, take}
use Rattle.sequence_data.specs.Gathered.{cell_in}
use Rattle.sequence_data.proofs.cells.empty_cells.Given as goal

abbrev pub invariant-loop-place : goal.invariant-loop-place
invariant-loop-place l = l.cells.items ≡ map (cell_in l.columns []) (take l.place-index l.places)
