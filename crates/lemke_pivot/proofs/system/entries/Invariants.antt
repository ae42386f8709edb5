use Rattle.std.proofs.Common.{◌+◌}
use Rattle.lex_tableau.specs.Entries.{AreEntries}
use Rattle.lemke_pivot.specs.Systems.{start_at}
use Rattle.lemke_pivot.proofs.system.entries.Given as goal

abbrev pub invariant-loop-k : goal.invariant-loop-k
invariant-loop-k l = AreEntries (start_at l.costs) (l.size + 2) l.k l.cells.items
