use Rattle.behaviour_profile.proofs.TestedBehaviourLemmas.{tested_behaviours}
use Rattle.behaviour_profile.proofs.entries.tested_entries_are_behaviours.Goals as goal

pub returns : goal.returns
returns c = tested_behaviours
