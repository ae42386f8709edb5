use Rattle.strategy_lists.proofs.LeftOutDecisionLemmas.{AreNumbered}
use Rattle.strategy_lists.proofs.kept.kept_decisions.Given as goal

abbrev pub invariant-loop-number : goal.invariant-loop-number
invariant-loop-number l = AreNumbered l.decisions l.kept.items l.number l.numbers.items l.list.items
