use Rattle.std.proofs.Common.{[], map}
use Rattle.game_core.specs.OwnSets.{AreOwnLists}
use Rattle.game_core.proofs.tree.no_lists.Given as goal

-- an empty list for each player so far
abbrev pub invariant-loop : goal.invariant-loop
invariant-loop l = AreOwnLists [] l.counter (map (λ v. v.items) l.lists.items)
