use Rattle.std.proofs.Common.{ℕ, ◌+◌, ◌<◌, get_or}
use Rattle.game_core.specs.Table.{game_of}
use Rattle.kept_strategies.specs.Comparisons.{IsAheadAt}
use Rattle.kept_strategies.proofs.elimination.first_not_ahead.Given as goal

abbrev pub invariant-loop-against : goal.invariant-loop-against
invariant-loop-against l =
    (k : ℕ) → k < l.against-index → IsAheadAt (game_of l.table) l.player l.strategy l.by (get_or l.others (l.start + k) 0)
