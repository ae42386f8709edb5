use Rattle.extreme_equilibria.proofs.KeptExamples.{elimination-in_two_games}
use Rattle.extreme_equilibria.proofs.elimination_in_two_games.Goals as goal

pub returns : goal.returns
returns c = elimination-in_two_games
