use Rattle.basis_enum.proofs.FoundPivotLemmas.{AreFoundBelow}
use Rattle.basis_enum.proofs.found_pivots.pivots_from.Given as goal

abbrev pub invariant-loop-column : goal.invariant-loop-column
invariant-loop-column l = AreFoundBelow l.tableau l.parent l.known l.column l.found.items
