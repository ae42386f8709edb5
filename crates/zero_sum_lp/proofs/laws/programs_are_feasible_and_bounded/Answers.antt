use Rattle.zero_sum_lp.proofs.BoundedObjectiveLemmas.{programs_feasible_and_bounded}
use Rattle.zero_sum_lp.proofs.laws.programs_are_feasible_and_bounded.Goals as goal

pub returns : goal.returns
returns c = programs_feasible_and_bounded
