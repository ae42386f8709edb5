use Rattle.std.proofs.Common.{◌<◌, ◌≡◌, ◌⊎◌, length, take}
use Rattle.std.specs.Prelude.{Contains}
use Rattle.lists.specs.Listed.{AreListed}
use Rattle.extreme_equilibria.specs.Elimination.{IsDominated}
use Rattle.game_core.specs.Table.{game_of}
use Rattle.kept_strategies.specs.Comparisons.{AreAhead}
use Rattle.kept_strategies.proofs.elimination.undominated_among.Given as goal

abbrev pub invariant-loop-strategy : goal.invariant-loop-strategy
invariant-loop-strategy l = record {
  listed : AreListed (λ s. Contains (take l.strategy-index l.own) s × (IsDominated (game_of l.table) l.player (Contains l.own) (Contains l.others) s → ⊥)) l.kept.items;
  ahead : AreAhead (game_of l.table) l.player l.others l.ahead;
  all_or_fewer : (l.kept.items ≡ take l.strategy-index l.own) ⊎ (length l.kept.items < l.strategy-index);
}
