use Rattle.game_theory.proofs.PokerExamples.{poker-worth}
use Rattle.game_theory.proofs.poker_is_worth_a_third.Goals as goal

pub returns : goal.returns
returns c = poker-worth
