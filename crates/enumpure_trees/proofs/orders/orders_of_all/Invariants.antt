use Rattle.std.proofs.Common.{ℕ, ◌≡◌, ◌<◌, [], length, map, get_or}
use Rattle.enumpure_trees.specs.StrategyOrders.{IsSortedOrder}
use Rattle.enumpure_trees.proofs.orders.orders_of_all.Given as goal

abbrev pub invariant-loop-player : goal.invariant-loop-player
invariant-loop-player l = record {
  one_for_each : length l.orders.items ≡ l.player;
  are_sorted : (i : ℕ) → i < l.player → IsSortedOrder (get_or l.reduced.choices i []) (get_or (map (λ v. v.items) l.orders.items) i []);
}
