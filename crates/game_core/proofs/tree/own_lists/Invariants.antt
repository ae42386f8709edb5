use Rattle.std.proofs.Common.{map, take}
use Rattle.game_core.specs.OwnSets.{AreOwnLists}
use Rattle.game_core.proofs.tree.own_lists.Given as goal

-- the numbers of the players' own sets among those before this one
abbrev pub invariant-loop-number : goal.invariant-loop-number
invariant-loop-number l = AreOwnLists (take l.number l.sets) l.players (map (λ v. v.items) l.lists.items)
