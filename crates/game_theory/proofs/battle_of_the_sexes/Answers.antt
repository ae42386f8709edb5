use Rattle.game_theory.proofs.Examples.{battle_of_the_sexes-holds}
use Rattle.game_theory.proofs.battle_of_the_sexes.Goals as goal

pub returns : goal.returns
returns c = battle_of_the_sexes-holds
