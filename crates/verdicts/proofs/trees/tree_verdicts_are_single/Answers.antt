use Rattle.verdicts.proofs.TreeSingleLemmas.{verdicts-single}
use Rattle.verdicts.proofs.trees.tree_verdicts_are_single.Goals as goal

pub returns : goal.returns
returns c = verdicts-single c.trees_are_game_trees.ensures c.sets_are_numbered_by_first_nodes.ensures
