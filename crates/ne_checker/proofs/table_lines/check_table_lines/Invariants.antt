use Rattle.std.proofs.Common.{length}
use Rattle.ne_checker.specs.LineChecks.{table_line}
use Rattle.ne_checker.proofs.LineStepLemmas.{IsOnWay}
use Rattle.ne_checker.proofs.table_lines.check_table_lines.Given as goal

abbrev pub invariant-loop-line : goal.invariant-loop-line
invariant-loop-line l = IsOnWay (table_line l.table) l.text l.number l.rest l.verdicts.items

abbrev pub decreases-loop-line : goal.decreases-loop-line
decreases-loop-line l = length l.rest
