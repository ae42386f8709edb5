use Rattle.std.proofs.Common.{◌≡◌}
use Rattle.game_theory.specs.Profiles.{stride}
use Rattle.game_core.specs.Table.{strategy_counts}
use Rattle.game_core.proofs.table.Table.stride.Given as goal

abbrev pub invariant-loop-earlier : goal.invariant-loop-earlier
invariant-loop-earlier l = l.stride ≡ stride (strategy_counts l.self) l.earlier
