use Rattle.tree_faults.proofs.FaultLaws.{stop_is_fault}
use Rattle.tree_faults.proofs.stops_are_faults.Goals as goal

pub returns : goal.returns
returns c = stop_is_fault
