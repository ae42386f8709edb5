use Rattle.std.proofs.Common.{◌-◌, ◌<◌, get_or, length}
use Rattle.game_theory.specs.Profiles.{profile_count, stride}
use Rattle.game_core.specs.Table.{strategy_counts}
use Rattle.verdicts.specs.TableReplies.{table_game_at, mixed_at}
use Rattle.verdicts.proofs.TableBlockLemmas.{IsRowEquivalent}
use Rattle.verdicts.proofs.tables.TableReplies.strategy_value.Given as goal

abbrev pub invariant-loop-first : goal.invariant-loop-first
invariant-loop-first l =
    (some : 0 < stride (strategy_counts l.self.table.now) l.self.player) (player : l.self.player < length (strategy_counts l.self.table.now)) (strategy : l.strategy < get_or (strategy_counts l.self.table.now) l.self.player 0)
    → IsRowEquivalent (table_game_at l.self) (mixed_at l.self) l.self.player l.strategy player strategy some l.value l.first

abbrev pub decreases-loop-first : goal.decreases-loop-first
decreases-loop-first l = profile_count (strategy_counts l.self.table.now) - l.first
