use Rattle.verdicts.proofs.TreeVerdictLaws.{verdicts-tell}
use Rattle.verdicts.proofs.trees.tree_verdicts_find_equilibria.Goals as goal

pub returns : goal.returns
returns c = verdicts-tell c.trees_are_game_trees.ensures
