use Rattle.behaviour_profile.proofs.ProfileAnswerLemmas.{group_once}
use Rattle.behaviour_profile.proofs.entries.groups_are_single.Goals as goal

pub returns : goal.returns
returns c = group_once
