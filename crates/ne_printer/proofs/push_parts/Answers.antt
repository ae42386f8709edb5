use Rattle.std.proofs.Common.{◌++◌, ◌∷◌, [], ap, ◌∙◌, append_assoc}
use Rattle.ne_printer.specs.Entries.{entries_text}
use Rattle.ne_printer.proofs.push_parts.Goals as goal

pub returns-clause-line : goal.returns-clause-line
returns-clause-line c =
    let qs = c.args.numbers.now in
    c.in_ok-push.ensures.items ∙ ap (λ v. v ++ 10 ∷ []) (c.in_ok-push_entries.ensures.entries ∙ ap (λ v. v ++ entries_text qs) c.in_ok-extend_from_slice.ensures.items) ∙ simp append_assoc
