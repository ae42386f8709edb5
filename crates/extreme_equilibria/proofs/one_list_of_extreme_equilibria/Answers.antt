use Rattle.extreme_equilibria.proofs.ExtremeListLemmas.{extreme_equilibria-determined}
use Rattle.extreme_equilibria.proofs.one_list_of_extreme_equilibria.Goals as goal

pub returns : goal.returns
returns c = extreme_equilibria-determined
