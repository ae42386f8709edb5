use Rattle.std.proofs.Common.{◌+◌, ◌≤◌, ◌≡◌, length}
use Rattle.strategy_lists.proofs.EndListLemmas.{all_ends}
use Rattle.strategy_lists.proofs.WalkTurnLemmas.{left, IsAtNext}
use Rattle.strategy_lists.proofs.walk.count_ends.Given as goal

abbrev pub invariant-loop-from : goal.invariant-loop-from
invariant-loop-from l = record {
  at : IsAtNext l.walk l.from;
  ends : length (all_ends l.decisions l.actions) ≡ l.count + length (left l.walk l.from);
  few : l.count ≤ l.most;
}

abbrev pub decreases-loop-from : goal.decreases-loop-from
decreases-loop-from l = length (left l.walk l.from)
