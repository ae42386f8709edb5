use Rattle.std.proofs.Common.{◌<◌, ◌≡◌, ◌∷◌, length, sym, subst, arith}
use Rattle.std.proofs.lemmas.Bool.Decides.{nat_tests}
use Rattle.ne_printer.specs.TextLines.{lines_of}
use Rattle.ne_printer.proofs.LineCutLemmas.{last_line, line_cut}
use Rattle.ne_printer.proofs.reading.first_line.Goals as goal

pub returns-in_default-clause-lines : goal.returns-in_default-clause-lines
returns-in_default-clause-lines c =
    let empty = c.if-is_empty.ensures in
    let some : 0 < length c.args.text.now = grind (arith, nat_tests) in
    last_line c.args.text.now some c.in_default.ensures

pub returns-clause-lines : goal.returns-clause-lines
returns-clause-lines c =
    let line = c.in-Some.line.now in
    let following = c.in-Some.following.now in
    subst (λ text. lines_of text ≡ line ∷ lines_of following) (sym c.in-Some.ensures.1) (line_cut line following c.in-Some.ensures.0)
