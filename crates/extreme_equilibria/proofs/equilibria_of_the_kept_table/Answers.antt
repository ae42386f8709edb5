use Rattle.extreme_equilibria.proofs.KeptTableLemmas.{equilibria-kept}
use Rattle.extreme_equilibria.proofs.equilibria_of_the_kept_table.Goals as goal

pub returns : goal.returns
returns c = equilibria-kept
