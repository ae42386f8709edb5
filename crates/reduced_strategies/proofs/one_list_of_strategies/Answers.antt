use Rattle.reduced_strategies.proofs.StrategyOrderLemmas.{strategies-determined}
use Rattle.reduced_strategies.proofs.one_list_of_strategies.Goals as goal

pub returns : goal.returns
returns c = strategies-determined
