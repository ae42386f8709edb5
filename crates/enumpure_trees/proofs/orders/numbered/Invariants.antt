use Rattle.std.proofs.Common.{◌≡◌, map}
use Rattle.enumpure_trees.specs.StrategyOrders.{first_numbered}
use Rattle.enumpure_trees.proofs.orders.numbered.Given as goal

abbrev pub invariant-loop-number : goal.invariant-loop-number
invariant-loop-number l = map (λ p. (p.0, p.1.now)) l.numbered.items ≡ first_numbered (map (λ v. v.items) l.strategies) l.number
