use Rattle.reduced_strategies.proofs.StrategyProfileLemmas.{completed-tell}
use Rattle.reduced_strategies.proofs.completed_choices_determine_strategies.Goals as goal

pub returns : goal.returns
returns c = completed-tell
