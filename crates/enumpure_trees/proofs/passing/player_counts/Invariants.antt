use Rattle.std.proofs.Common.{◌≡◌, map}
use Rattle.std.specs.List.{range_with_len}
use Rattle.game_core.specs.TreeGame.{game_of_tree}
use Rattle.enumpure_trees.specs.Games.{strategy_count}
use Rattle.enumpure_trees.proofs.passing.player_counts.Given as goal

abbrev pub invariant-loop-player : goal.invariant-loop-player
invariant-loop-player l =
    l.counts.items ≡ map (strategy_count (game_of_tree l.tree)) (range_with_len 0 l.player)
