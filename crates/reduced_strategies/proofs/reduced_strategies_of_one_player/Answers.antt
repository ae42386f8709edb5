use Rattle.reduced_strategies.proofs.OnePlayerExamples.{one_player-strategies}
use Rattle.reduced_strategies.proofs.reduced_strategies_of_one_player.Goals as goal

pub returns : goal.returns
returns c = one_player-strategies
