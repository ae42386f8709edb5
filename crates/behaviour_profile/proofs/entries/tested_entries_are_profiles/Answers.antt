use Rattle.behaviour_profile.proofs.TestedEntryLemmas.{tested_entries}
use Rattle.behaviour_profile.proofs.entries.tested_entries_are_profiles.Goals as goal

pub returns : goal.returns
returns c = tested_entries
