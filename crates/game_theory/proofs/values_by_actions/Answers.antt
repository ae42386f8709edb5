use Rattle.game_theory.proofs.ValueLemmas.{value-by_actions}
use Rattle.game_theory.proofs.values_by_actions.Goals as goal

pub returns : goal.returns
returns c = value-by_actions
