use Rattle.strategy_lists.specs.Ends.{ComesTo}
use Rattle.strategy_lists.proofs.walk.Walk.forward.Given as goal

abbrev pub invariant-loop-number : goal.invariant-loop-number
invariant-loop-number l = ComesTo l.initial.self l.from l.self l.number
