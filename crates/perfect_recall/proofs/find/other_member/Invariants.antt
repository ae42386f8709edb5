use Rattle.perfect_recall.specs.Members.{HaveSameEdge}
use Rattle.perfect_recall.proofs.find.other_member.Given as goal

abbrev pub invariant-loop-member : goal.invariant-loop-member
invariant-loop-member l = HaveSameEdge l.members l.edges l.member-index
