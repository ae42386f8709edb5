use Rattle.std.proofs.Common.{◌≡◌, map, take}
use Rattle.enumpure_trees.proofs.orders.order_of.Given as goal

abbrev pub invariant-loop-strategy : goal.invariant-loop-strategy
invariant-loop-strategy l = l.order.items ≡ map (λ p. p.0) (take l.strategy-index l.strategy-items)
