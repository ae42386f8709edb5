use Rattle.std.proofs.Common.{◌≡◌, ◌≤◌, length, map, min}
use Rattle.strategy_lists.proofs.WayCountLemmas.{AreAfter, is_first, ways_where}
use Rattle.strategy_lists.proofs.count.count_apart.Given as goal

abbrev pub invariant-loop-left : goal.invariant-loop-left
invariant-loop-left l = record {
  within : l.left ≤ length l.decisions;
  following : AreAfter l.decisions l.actions l.left l.limit (map (λ v. v.items) l.following.items);
  first : l.first ≡ min (ways_where l.decisions l.actions l.left is_first) l.limit;
}

abbrev pub decreases-loop-left : goal.decreases-loop-left
decreases-loop-left l = l.left
