use Rattle.extreme_equilibria.proofs.SameCellLemmas.{same_cells-same_equilibria}
use Rattle.extreme_equilibria.proofs.same_cells_have_same_equilibria.Goals as goal

pub returns : goal.returns
returns c = same_cells-same_equilibria
