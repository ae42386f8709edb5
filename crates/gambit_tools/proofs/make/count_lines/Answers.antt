use Rattle.std.proofs.Common.{◌∙◌, append_assoc}
use Rattle.gambit_tools.proofs.make.count_lines.Goals as goal

pub returns : goal.returns
returns c = c.in_ok-format.ensures.ok ∙ simp append_assoc
