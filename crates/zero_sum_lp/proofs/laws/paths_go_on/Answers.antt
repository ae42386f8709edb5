use Rattle.zero_sum_lp.proofs.DeterminedPathLemmas.{after_goes_on}
use Rattle.zero_sum_lp.proofs.laws.paths_go_on.Goals as goal

pub returns : goal.returns
returns c = after_goes_on
