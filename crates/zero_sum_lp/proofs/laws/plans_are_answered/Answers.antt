use Rattle.zero_sum_lp.proofs.AnsweredPlanLemmas.{plans_answered}
use Rattle.zero_sum_lp.proofs.laws.plans_are_answered.Goals as goal

pub returns : goal.returns
returns c = plans_answered
