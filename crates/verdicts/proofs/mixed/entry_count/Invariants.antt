use Rattle.std.proofs.Common.{◌≡◌, take}
use Rattle.std.specs.Prelude.{sum}
use Rattle.game_core.specs.Table.{strategy_counts}
use Rattle.verdicts.proofs.mixed.entry_count.Given as goal

abbrev pub invariant-loop-player : goal.invariant-loop-player
invariant-loop-player l = l.count ≡ sum (take l.player (strategy_counts l.table))
