use Rattle.best_replies.proofs.StrategyLemmas.{best_strategies-tell}
use Rattle.best_replies.proofs.best_strategies_show_better_replies.Goals as goal

pub returns : goal.returns
returns c = best_strategies-tell
