use Rattle.std.proofs.Common.{◌≡◌}
use Rattle.std.specs.List.{flat_map, range_with_len}
use Rattle.game_core.specs.TreeGame.{game_of_tree}
use Rattle.game_theory.specs.OwnSets.{own_sets}
use Rattle.enumpure_trees.proofs.choices.player_sets.Given as goal

abbrev pub invariant-loop-player : goal.invariant-loop-player
invariant-loop-player l =
    l.sets.items ≡ flat_map (own_sets (game_of_tree l.tree)) (range_with_len 0 l.player)
