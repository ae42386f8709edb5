use Rattle.ne_checker.proofs.CheckLaws.{tree_checks-tell}
use Rattle.ne_checker.proofs.tree_lines.tree_checks_tell_equilibria.Goals as goal

pub returns : goal.returns
returns c = tree_checks-tell c.tree_verdicts_find_equilibria.ensures c.tested_entries_are_behaviours.ensures c.trees_are_game_trees.ensures
