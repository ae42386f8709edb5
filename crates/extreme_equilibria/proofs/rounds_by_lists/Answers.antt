use Rattle.extreme_equilibria.proofs.KeptListLemmas.{rounds-by_lists}
use Rattle.extreme_equilibria.proofs.rounds_by_lists.Goals as goal

pub returns : goal.returns
returns c = rounds-by_lists
