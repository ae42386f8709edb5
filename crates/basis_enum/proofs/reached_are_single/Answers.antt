use Rattle.basis_enum.proofs.OneReachedLaws.{reached_once}
use Rattle.basis_enum.proofs.reached_are_single.Goals as goal

pub returns : goal.returns
returns c = reached_once
