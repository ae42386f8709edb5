use Rattle.std.proofs.Common.{◌*◌, ◌≡◌, ap, sym, ◌∙◌, rules}
use Rattle.std.specs.List.{count_by}
use Rattle.enumpure.proofs.LineLengthLemmas.{length-lines_text}
use Rattle.enumpure.proofs.lengths.text_length.Goals as goal

pub returns : goal.returns
returns c =
    let count : c.count.result ≡ count_by (λ b. b) c.args.passes.now = search rules in
    ap (λ v. v * c.line_length.result) count ∙ sym (length-lines_text c.args.counts.now c.args.passes.now c.line_length.result c.requires.each c.line_length.ensures.each)
