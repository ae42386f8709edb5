use Rattle.std.proofs.Common.{◌++◌, ◌≡◌, length, map}
use Rattle.strategy_lists.proofs.EndListLemmas.{all_ends}
use Rattle.strategy_lists.proofs.WalkTurnLemmas.{left, IsAtNext}
use Rattle.strategy_lists.proofs.walk.list_reduced.Given as goal

abbrev pub invariant-loop-from : goal.invariant-loop-from
invariant-loop-from l = record {
  at : IsAtNext l.walk l.from;
  ends : all_ends l.decisions l.actions ≡ map (λ v. v.items) l.lists.items ++ left l.walk l.from;
}

abbrev pub decreases-loop-from : goal.decreases-loop-from
decreases-loop-from l = length (left l.walk l.from)
