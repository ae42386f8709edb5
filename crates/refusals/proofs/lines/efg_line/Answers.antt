use Rattle.std.proofs.Common.{◌∙◌, append_assoc}
use Rattle.refusals.proofs.lines.efg_line.Goals as goal

pub returns : goal.returns
returns c = c.in_ok-format.ensures.ok ∙ simp append_assoc
