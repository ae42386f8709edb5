use Rattle.whole_rows.specs.Rows.{from_place, IsGreatestDivisor}
use Rattle.whole_rows.proofs.rows.common_divisor.Given as goal

abbrev pub invariant-loop-place : goal.invariant-loop-place
invariant-loop-place l = IsGreatestDivisor (from_place l.numbers l.own) l.place l.common
