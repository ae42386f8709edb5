use Rattle.zero_sum_lp.proofs.DeterminedPathLemmas.{after_once, path_ends}
use Rattle.zero_sum_lp.proofs.laws.paths_are_determined.Goals as goal

pub returns : goal.returns
returns c = record { once = after_once; end = path_ends }
