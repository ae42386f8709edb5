use Rattle.game_theory.proofs.ValueLemmas.{value-end}
use Rattle.game_theory.proofs.ends_pay_their_outcome.Goals as goal

pub returns : goal.returns
returns c = value-end
