use Rattle.basis_enum.proofs.BasicValueLemmas.{AreRowsTo}
use Rattle.basis_enum.proofs.marking.rows_of.Given as goal

abbrev pub invariant-loop-row : goal.invariant-loop-row
invariant-loop-row l = AreRowsTo l.tableau l.row l.rows
