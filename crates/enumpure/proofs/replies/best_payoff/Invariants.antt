use Rattle.enumpure.specs.Replies.{IsGreatestInLine, column_pays}
use Rattle.enumpure.proofs.replies.best_payoff.Given as goal

abbrev pub invariant-loop-strategy : goal.invariant-loop-strategy
invariant-loop-strategy l = IsGreatestInLine (column_pays l.column) l.first l.stride l.strategy l.best
