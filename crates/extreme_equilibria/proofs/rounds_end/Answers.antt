use Rattle.extreme_equilibria.proofs.RoundLemmas.{rounds-end}
use Rattle.extreme_equilibria.proofs.rounds_end.Goals as goal

pub returns : goal.returns
returns c = rounds-end
