use Rattle.extreme_equilibria.proofs.KeptListLemmas.{one_list}
use Rattle.extreme_equilibria.proofs.one_list_of_kept_strategies.Goals as goal

pub returns : goal.returns
returns c = one_list
