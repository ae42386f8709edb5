use Rattle.std.proofs.Common.{ℕ, ◌+◌, length}
use Rattle.extreme_equilibria.specs.Elimination.{AreKeptAfter}
use Rattle.game_core.specs.Table.{game_of}
use Rattle.kept_strategies.specs.Comparisons.{AreAhead}
use Rattle.kept_strategies.proofs.elimination.kept_strategies.Given as goal

abbrev pub invariant-loop-second : goal.invariant-loop-second
invariant-loop-second l = record {
  round : ℕ;
  first : AreKeptAfter (game_of l.table) round 0 l.first.items;
  second : AreKeptAfter (game_of l.table) round 1 l.second.items;
  first_ahead : AreAhead (game_of l.table) 0 l.second.items l.first_ahead;
  second_ahead : AreAhead (game_of l.table) 1 l.first.items l.second_ahead;
}

abbrev pub decreases-loop-second : goal.decreases-loop-second
decreases-loop-second l = length l.first.items + length l.second.items
