use Rattle.std.proofs.Common.{◌≡◌, ◌≤◌, ◌+◌, ◌-◌, length}
use Rattle.basis_enum.specs.Levels.{most_bases}
use Rattle.basis_enum.specs.Next.{AreNewPivots}
use Rattle.basis_enum.specs.Walks.{IsWalkAt}
use Rattle.basis_enum.proofs.walk.reach.Given as goal

abbrev pub invariant-loop-walk : goal.invariant-loop-walk
invariant-loop-walk g l = record {
  walk : IsWalkAt l.system l.number l.walk;
  count : l.pivots + 1 ≡ l.initial.pivots + length l.walk.known.items;
  risen : l.initial.pivots ≤ l.pivots;
  next : AreNewPivots l.walk.level.items l.walk.known.items l.next.items;
}

abbrev pub decreases-loop-walk : goal.decreases-loop-walk
decreases-loop-walk g l = most_bases - l.number
