use Rattle.extreme_equilibria.proofs.KeptPlayerLemmas.{zero-at_removed}
use Rattle.extreme_equilibria.proofs.equilibria_are_zero_at_removed.Goals as goal

pub returns : goal.returns
returns c = zero-at_removed
