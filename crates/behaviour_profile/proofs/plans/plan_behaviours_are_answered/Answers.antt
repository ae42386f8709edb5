use Rattle.behaviour_profile.proofs.AnsweredProfileLemmas.{plan_behaviour-answered}
use Rattle.behaviour_profile.proofs.plans.plan_behaviours_are_answered.Goals as goal

pub returns : goal.returns
returns c = plan_behaviour-answered
