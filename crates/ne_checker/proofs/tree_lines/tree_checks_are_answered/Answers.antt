use Rattle.ne_checker.proofs.AnsweredCheckLemmas.{tree_checks-answered}
use Rattle.ne_checker.proofs.tree_lines.tree_checks_are_answered.Goals as goal

pub returns : goal.returns
returns c = tree_checks-answered c.tested_entries_are_behaviours.ensures c.tree_verdicts_exist.ensures c.trees_are_game_trees.ensures
