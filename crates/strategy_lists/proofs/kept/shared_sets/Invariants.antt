use Rattle.strategy_lists.proofs.LeftOutDecisionLemmas.{AreSeen}
use Rattle.strategy_lists.proofs.kept.shared_sets.Given as goal

abbrev pub invariant-loop-decision : goal.invariant-loop-decision
invariant-loop-decision l = AreSeen l.decisions l.sets l.decision-index l.seen.items l.shared.items
