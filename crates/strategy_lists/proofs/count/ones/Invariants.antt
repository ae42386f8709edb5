use Rattle.std.proofs.Common.{◌≡◌, get_or, map, replicate, take}
use Rattle.strategy_lists.proofs.count.ones.Given as goal

abbrev pub invariant-loop-decision : goal.invariant-loop-decision
invariant-loop-decision l =
    map (λ v. v.items) l.lists.items
    ≡ map (λ d. replicate (get_or l.actions d.place 0) 1) (take l.decision-index l.decisions)
