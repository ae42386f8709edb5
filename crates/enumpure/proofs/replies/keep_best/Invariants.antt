use Rattle.enumpure.specs.Replies.{KeepsBestInLine, column_pays}
use Rattle.enumpure.proofs.replies.keep_best.Given as goal

abbrev pub invariant-loop-strategy : goal.invariant-loop-strategy
invariant-loop-strategy l = KeepsBestInLine (column_pays l.column) l.first l.stride l.strategy l.best l.initial.all_best l.all_best
