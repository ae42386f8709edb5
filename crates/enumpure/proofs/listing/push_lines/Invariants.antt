use Rattle.std.proofs.Common.{◌≡◌, ◌++◌}
use Rattle.game_theory.specs.Lines.{lines_text}
use Rattle.enumpure.specs.Ranks.{lines_below}
use Rattle.enumpure.proofs.listing.push_lines.Given as goal

abbrev pub invariant-loop-rank : goal.invariant-loop-rank
invariant-loop-rank l = l.text.items ≡ l.initial.text.items ++ lines_text (lines_below l.counts l.passes l.rank)
