use Rattle.extreme_equilibria.proofs.KeptListLemmas.{last-lists}
use Rattle.extreme_equilibria.proofs.last_lists_are_kept.Goals as goal

pub returns : goal.returns
returns c = last-lists
