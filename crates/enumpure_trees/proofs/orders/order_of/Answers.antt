use Rattle.std.proofs.Common.{◌≡◌, map, sym, ap, ◌∙◌, subst, arith}
use Rattle.std.proofs.lemmas.List.{length-map, take_all}
use Rattle.enumpure_trees.specs.StrategyOrders.{first_numbered, IsSortedOrder}
use Rattle.enumpure_trees.proofs.SortedStrategyLemmas.{IsSortedOrder-sorted}
use Rattle.enumpure_trees.proofs.orders.order_of.Goals as goal

pub returns : goal.returns
returns c =
    let lists = map (λ v. v.items) c.args.strategies.now in
    let sorted = c.sort_completed.new.numbered.items in
    let all : c.loop-strategy.order.items ≡ map (λ p. p.0) sorted = c.loop-strategy.invariant ∙ ap (map (λ p. p.0)) (take_all c.loop-strategy.strategy-index c.deref-strategy-items.result.now (omega arith) ∙ c.deref-strategy-items.ensures.value) in
    let first = (c.in_ok-sorted.ensures {u = tt}) ∙ ap (first_numbered lists) (sym (length-map c.args.strategies.now (λ v. v.items))) in
    subst (IsSortedOrder lists) (sym all) (IsSortedOrder-sorted (λ p. p.0) (λ p. p.1.now) lists c.in_ok-sorted.sorted.items sorted c.requires.told first c.sort_completed.ensures.same (c.in_ok-sort_completed.ensures {u = tt}).sorted)
