use Rattle.reduced_strategies.proofs.StrategyProfileLemmas.{first_actions-complete}
use Rattle.reduced_strategies.proofs.first_actions_complete.Goals as goal

pub returns : goal.returns
returns c = first_actions-complete
