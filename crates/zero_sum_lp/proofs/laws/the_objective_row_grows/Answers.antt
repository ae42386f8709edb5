use Rattle.zero_sum_lp.proofs.DeterminedPathLemmas.{after_grows}
use Rattle.zero_sum_lp.proofs.laws.the_objective_row_grows.Goals as goal

pub returns : goal.returns
returns c = after_grows
