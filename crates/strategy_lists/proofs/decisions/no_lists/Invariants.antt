use Rattle.std.proofs.Common.{◌≡◌, [], length, All}
use Rattle.strategy_lists.proofs.decisions.no_lists.Given as goal

-- as many empty lists as players were counted
abbrev pub invariant-loop : goal.invariant-loop
invariant-loop l = (length l.lists.items ≡ l.counter) × All (λ list. list.items ≡ []) l.lists.items
