use Rattle.std.proofs.Common.{◌<◌, length, subst, sym, arith}
use Rattle.std.proofs.lemmas.Bool.Decides.{nat_tests}
use Rattle.ne_printer.specs.ReadLines.{IsLine}
use Rattle.ne_printer.proofs.LinesReadLemmas.{after_start, line_gives, empty_line}
use Rattle.ne_printer.proofs.reading.read_line.Goals as goal

pub returns-then-is_empty : goal.returns-then-is_empty
returns-then-is_empty c =
    let start = c.in-Some.ensures.cases in
    let empty = c.if-is_empty.ensures in
    subst (IsLine c.args.line.now) (sym c.new.ensures.items) (empty_line _ _ (after_start _ _ start.0 start.1) (grind (arith, nat_tests)))

pub returns : goal.returns
returns c =
    let start = c.in-Some.ensures.cases in
    let more = c.if-is_empty.ensures in
    let some : 0 < length c.in-Some.text.now = grind (arith, nat_tests) in
    line_gives _ _ (after_start _ _ start.0 start.1) some _ c.entries_in.ensures
