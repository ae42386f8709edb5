use Rattle.zero_sum_lp.proofs.PathEndLemmas.{ends_same}
use Rattle.zero_sum_lp.proofs.laws.ends_are_single.Goals as goal

pub returns : goal.returns
returns c = ends_same
