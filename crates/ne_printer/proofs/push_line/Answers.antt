use Rattle.std.proofs.Common.{◌≡◌, ◌++◌, [], ap, ◌∙◌, subst}
use Rattle.std.specs.Prelude.{OnOk}
use Rattle.ne_printer.specs.Entries.{numbers_line}
use Rattle.ne_printer.proofs.LineTextLemmas.{line_text-joined}
use Rattle.ne_printer.proofs.push_line.Goals as goal

pub returns-clause-line : goal.returns-clause-line
returns-clause-line c =
    let qs = c.args.entries.now in
    subst (λ line. OnOk c.push_numbers.result (c.push_numbers.new.text.items ≡ c.args.text.now.items ++ line)) (ap (λ name. numbers_line name qs) c.line_start.ensures ∙ line_text-joined [] qs) c.push_numbers.ensures.line
