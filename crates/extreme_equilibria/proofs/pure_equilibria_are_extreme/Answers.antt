use Rattle.extreme_equilibria.proofs.PureEquilibriumLemmas.{pure-extreme}
use Rattle.extreme_equilibria.proofs.pure_equilibria_are_extreme.Goals as goal

pub returns : goal.returns
returns c = pure-extreme
