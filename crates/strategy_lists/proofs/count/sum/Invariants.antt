use Rattle.std.proofs.Common.{◌≡◌, min, take}
use Rattle.std.specs.List.{sum}
use Rattle.strategy_lists.proofs.count.sum.Given as goal

abbrev pub invariant-loop-number : goal.invariant-loop-number
invariant-loop-number l = l.sum ≡ min (sum (take l.number-index l.numbers)) l.limit
