use Rattle.sequence_data.proofs.WrittenCellLemmas.{IsWritten}
use Rattle.sequence_data.proofs.matrix.dense.Given as goal

abbrev pub invariant-loop-k : goal.invariant-loop-k
invariant-loop-k l = IsWritten l.rows l.columns l.cells l.numbers l.k l.matrix.items
