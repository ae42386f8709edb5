use Rattle.std.proofs.Common.{ℕ, ◌<◌, get_or}
use Rattle.std.specs.Prelude.{Contains}
use Rattle.game_core.specs.Table.{game_of}
use Rattle.kept_strategies.specs.Comparisons.{AreAhead, IsAheadAt}
use Rattle.kept_strategies.proofs.elimination.is_dominated.Given as goal

abbrev pub invariant-loop-by : goal.invariant-loop-by
invariant-loop-by l = record {
  ahead : AreAhead (game_of l.table) l.player l.others l.ahead;
  none : (k : ℕ) → k < l.by-index → ((t : ℕ) → Contains l.others t → IsAheadAt (game_of l.table) l.player l.strategy (get_or l.own k 0) t) → ⊥;
}
