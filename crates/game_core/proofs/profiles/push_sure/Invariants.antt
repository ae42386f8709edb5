use Rattle.std.proofs.Common.{◌≡◌, ◌++◌}
use Rattle.game_theory.specs.Lines.{listed}
use Rattle.game_theory.specs.Mixed.{sure}
use Rattle.game_core.proofs.profiles.push_sure.Given as goal

abbrev pub invariant-loop-place : goal.invariant-loop-place
invariant-loop-place l = l.entries.items ≡ l.initial.entries.items ++ listed l.place (sure l.chosen)
