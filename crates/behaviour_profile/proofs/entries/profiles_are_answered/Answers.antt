use Rattle.behaviour_profile.proofs.AnsweredProfileLemmas.{profile_in-answered}
use Rattle.behaviour_profile.proofs.entries.profiles_are_answered.Goals as goal

pub returns : goal.returns
returns c = profile_in-answered
