use Rattle.sequence_data.proofs.StepStageLemmas.{gathering_in-single}
use Rattle.sequence_data.proofs.gatherings_are_single.Goals as goal

pub returns : goal.returns
returns c = gathering_in-single
