use Rattle.std.proofs.Common.{◌≡◌, take}
use Rattle.game_theory.specs.Mixed.{pure}
use Rattle.game_theory.specs.Lines.{entries}
use Rattle.enumpure.proofs.listing.set_entries.Given as goal

abbrev pub invariant-loop-player : goal.invariant-loop-player
invariant-loop-player l = l.entries.items ≡ entries (take l.player l.counts) (pure l.profile)
