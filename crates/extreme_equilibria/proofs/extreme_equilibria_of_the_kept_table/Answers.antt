use Rattle.extreme_equilibria.proofs.ExtremeEquilibriaLemmas.{extreme-kept}
use Rattle.extreme_equilibria.proofs.extreme_equilibria_of_the_kept_table.Goals as goal

pub returns : goal.returns
returns c = extreme-kept
