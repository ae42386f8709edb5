use Rattle.whole_rows.proofs.DeterminedRowLemmas.{rows_determined}
use Rattle.whole_rows.proofs.rows_are_determined.Goals as goal

pub returns : goal.returns
returns c = rows_determined
