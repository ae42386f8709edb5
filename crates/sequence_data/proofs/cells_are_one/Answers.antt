use Rattle.sequence_data.proofs.OrderLemmas.{cells-one}
use Rattle.sequence_data.proofs.cells_are_one.Goals as goal

pub returns : goal.returns
returns c = cells-one
