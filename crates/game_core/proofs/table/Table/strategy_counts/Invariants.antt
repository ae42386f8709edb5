use Rattle.std.proofs.Common.{◌≡◌, take}
use Rattle.game_core.specs.Table.{strategy_counts}
use Rattle.game_core.proofs.table.Table.strategy_counts.Given as goal

abbrev pub invariant-loop-player : goal.invariant-loop-player
invariant-loop-player l = l.counts.items ≡ take l.player (strategy_counts l.self)
