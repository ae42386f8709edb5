use Rattle.game_theory.proofs.ValueLemmas.{value-unique}
use Rattle.game_theory.proofs.values_are_unique.Goals as goal

pub returns : goal.returns
returns c = value-unique
