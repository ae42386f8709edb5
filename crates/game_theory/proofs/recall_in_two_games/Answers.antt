use Rattle.game_theory.proofs.RecallExamples.{recall-in_two_games}
use Rattle.game_theory.proofs.recall_in_two_games.Goals as goal

pub returns : goal.returns
returns c = recall-in_two_games
