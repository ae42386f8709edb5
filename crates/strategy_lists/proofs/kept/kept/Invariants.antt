use Rattle.std.proofs.Common.{◌≤◌, length}
use Rattle.strategy_lists.proofs.LeftOutDecisionLemmas.{IsEnoughFrom}
use Rattle.strategy_lists.proofs.kept.kept.Given as goal

abbrev pub invariant-loop-left : goal.invariant-loop-left
invariant-loop-left l = (l.left ≤ length l.decisions) × IsEnoughFrom l.decisions l.actions l.left l.kept.items

abbrev pub decreases-loop-left : goal.decreases-loop-left
decreases-loop-left l = l.left
