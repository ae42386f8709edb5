use Rattle.zero_sum_lp.proofs.PlanAnswerLemmas.{plans_single}
use Rattle.zero_sum_lp.proofs.laws.plans_are_single.Goals as goal

pub returns : goal.returns
returns c = plans_single
