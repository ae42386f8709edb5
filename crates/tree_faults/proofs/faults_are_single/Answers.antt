use Rattle.tree_faults.proofs.FaultLaws.{one_fault_at, no_fault_of_file, fault_of_others}
use Rattle.tree_faults.proofs.faults_are_single.Goals as goal

pub returns : goal.returns
returns c = record { one = one_fault_at; of_no_file = no_fault_of_file; of_others = fault_of_others }
