use Rattle.ne_checker.proofs.AnsweredCheckLemmas.{table_checks-answered}
use Rattle.ne_checker.proofs.table_lines.table_checks_are_answered.Goals as goal

pub returns : goal.returns
returns c = table_checks-answered c.tested_entries_are_profiles.ensures c.table_verdicts_exist.ensures
