use Rattle.std.proofs.Common.{◌∙◌, append_assoc}
use Rattle.refusals.proofs.lines.forgets_line.Goals as goal

pub returns : goal.returns
returns c = c.in_ok-format.ensures.ok ∙ simp (append_assoc, c.from_one-player.ensures, c.from_one-first.ensures, c.from_one-second.ensures)
