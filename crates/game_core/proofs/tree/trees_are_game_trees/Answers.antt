use Rattle.game_core.proofs.TreeLaws.{game_tree}
use Rattle.game_core.proofs.tree.trees_are_game_trees.Goals as goal

pub returns : goal.returns
returns c = game_tree
