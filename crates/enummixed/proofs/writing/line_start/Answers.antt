use Rattle.std.proofs.Common.{◌≡◌, ◌<◌, ◌+◌, length, arith}
use Rattle.std.proofs.lemmas.Bool.Decides.{nat_tests}
use Rattle.enummixed.proofs.LineTextLemmas.{start-both, start-some}
use Rattle.enummixed.proofs.writing.line_start.Goals as goal
use Rattle.enummixed.proofs.writing.line_start.Goals.{else-is_empty-via-then-is_empty+else-is_empty-2, else-is_empty-via-else-is_empty}

pub returns-then-is_empty-2 : goal.returns-then-is_empty-2
returns-then-is_empty-2 c = λ xs ys e f.
    let first = c.if-is_empty.ensures in
    let second = c.if-is_empty-2.ensures in
    let no-first : length c.args.first.now ≡ 0 = grind (arith, nat_tests) in
    let no-second : length c.args.second.now ≡ 0 = grind (arith, nat_tests) in
    start-both c.args.first.now c.args.second.now xs ys no-first no-second e f

pub returns-else-is_empty : goal.returns-else-is_empty
returns-else-is_empty c = λ xs ys e f.
    let some : 0 < length c.args.first.now + length c.args.second.now = elim c.else-is_empty.branch [
      | else-is_empty-via-then-is_empty+else-is_empty-2 w ↦ (let second = w.if-is_empty-2.ensures in grind (arith, nat_tests))
      | else-is_empty-via-else-is_empty w ↦ (let first = w.if-is_empty.ensures in grind (arith, nat_tests))
    ] in
    start-some c.args.first.now c.args.second.now xs ys some e f
