use Rattle.ne_checker.proofs.OneAnswerLaws.{tree_checks_once}
use Rattle.ne_checker.proofs.tree_lines.tree_checks_are_single.Goals as goal

pub returns : goal.returns
returns c = tree_checks_once c.profiles_are_single.ensures c.tree_verdicts_are_single.ensures
