use Rattle.zero_sum_lp.proofs.DeterminedPathLemmas.{path_is_short}
use Rattle.zero_sum_lp.proofs.laws.paths_end.Goals as goal

pub returns : goal.returns
returns c = path_is_short
