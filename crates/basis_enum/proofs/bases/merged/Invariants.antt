use Rattle.std.proofs.Common.{◌+◌, ◌-◌, length}
use Rattle.basis_enum.proofs.MergedListLemmas.{AreMerged}
use Rattle.basis_enum.proofs.bases.merged.Given as goal

abbrev pub invariant-loop-first : goal.invariant-loop-first
invariant-loop-first l = AreMerged l.known l.new l.first l.second l.all.items

abbrev pub decreases-loop-first : goal.decreases-loop-first
decreases-loop-first l = (length l.known + length l.new) - (l.first + l.second)
