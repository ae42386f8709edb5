use Rattle.verdicts.proofs.AnsweredVerdictLemmas.{tree_verdicts-exist}
use Rattle.verdicts.proofs.trees.tree_verdicts_exist.Goals as goal

pub returns : goal.returns
returns c = tree_verdicts-exist c.trees_are_game_trees.ensures c.sets_are_numbered_by_first_nodes.ensures
