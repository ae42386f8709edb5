use Rattle.std.proofs.Common.{◌+◌}
use Rattle.lex_tableau.specs.Entries.{AreEntries}
use Rattle.reply_polytope.specs.Shapes.{slack_system}
use Rattle.reply_polytope.proofs.systems.entries.Given as goal

abbrev pub invariant-loop-k : goal.invariant-loop-k
invariant-loop-k l = AreEntries (slack_system l.numbers l.shape) (l.shape.width + 1) l.k l.cells.items
