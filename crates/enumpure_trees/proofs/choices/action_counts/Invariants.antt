use Rattle.std.proofs.Common.{◌≡◌, map, take}
use Rattle.game_core.specs.TreeGame.{game_of_tree}
use Rattle.enumpure_trees.proofs.choices.action_counts.Given as goal

abbrev pub invariant-loop-set : goal.invariant-loop-set
invariant-loop-set l =
    l.counts.items ≡ map (game_of_tree l.tree).actions (take l.set-index l.sets)
