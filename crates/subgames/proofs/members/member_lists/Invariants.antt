use Rattle.std.proofs.Common.{map, take}
use Rattle.subgames.specs.CutParts.{AreMemberLists}
use Rattle.subgames.proofs.members.member_lists.Given as goal

abbrev pub invariant-loop-number : goal.invariant-loop-number
invariant-loop-number l = AreMemberLists (take l.number l.names) l.count (map (λ v. v.items) l.lists.items)
