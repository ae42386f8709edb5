use Rattle.game_theory.proofs.ValueLemmas.{value-recurs}
use Rattle.game_theory.proofs.values_recur.Goals as goal

pub returns : goal.returns
returns c = value-recurs
