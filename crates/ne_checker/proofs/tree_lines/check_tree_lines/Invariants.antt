use Rattle.std.proofs.Common.{length}
use Rattle.verdicts.specs.TreeScratches.{IsScratchOf}
use Rattle.ne_checker.specs.LineChecks.{tree_line}
use Rattle.ne_checker.proofs.LineStepLemmas.{IsOnWay}
use Rattle.ne_checker.proofs.tree_lines.check_tree_lines.Given as goal

abbrev pub invariant-loop-line : goal.invariant-loop-line
invariant-loop-line l = record {
  scratch : IsScratchOf l.tree l.scratch;
  on_way : IsOnWay (tree_line l.tree) l.text l.number l.rest l.verdicts.items;
}

abbrev pub decreases-loop-line : goal.decreases-loop-line
decreases-loop-line l = length l.rest
