use Rattle.extreme_equilibria.proofs.KeptListLemmas.{kept-exist}
use Rattle.extreme_equilibria.proofs.kept_strategies_exist.Goals as goal

pub returns : goal.returns
returns c = kept-exist
