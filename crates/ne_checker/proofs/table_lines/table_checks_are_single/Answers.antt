use Rattle.ne_checker.proofs.OneAnswerLaws.{table_checks_once}
use Rattle.ne_checker.proofs.table_lines.table_checks_are_single.Goals as goal

pub returns : goal.returns
returns c = table_checks_once c.profiles_are_single.ensures
