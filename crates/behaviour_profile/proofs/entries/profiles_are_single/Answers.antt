use Rattle.behaviour_profile.proofs.ProfileAnswerLemmas.{profile_once}
use Rattle.behaviour_profile.proofs.entries.profiles_are_single.Goals as goal

pub returns : goal.returns
returns c = profile_once
