use Rattle.extreme_equilibria.proofs.RoundLemmas.{last_round}
use Rattle.extreme_equilibria.proofs.round_that_removes_none_is_last.Goals as goal

pub returns : goal.returns
returns c = last_round
