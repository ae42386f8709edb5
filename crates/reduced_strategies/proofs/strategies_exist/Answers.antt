use Rattle.reduced_strategies.proofs.ExistenceLemmas.{strategies-exist}
use Rattle.reduced_strategies.proofs.strategies_exist.Goals as goal

pub returns : goal.returns
returns c = strategies-exist
