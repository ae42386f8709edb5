use Rattle.extreme_equilibria.proofs.Examples.{indifference-holds}
use Rattle.extreme_equilibria.proofs.indifference.Goals as goal

pub returns : goal.returns
returns c = indifference-holds
