use Rattle.behaviour_profile.proofs.PlanStopLemmas.{plan_behaviour-single}
use Rattle.behaviour_profile.proofs.plans.plan_behaviours_are_single.Goals as goal

pub returns : goal.returns
returns c = plan_behaviour-single
