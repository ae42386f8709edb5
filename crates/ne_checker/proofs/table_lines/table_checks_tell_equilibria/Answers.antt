use Rattle.ne_checker.proofs.CheckLaws.{table_checks-tell}
use Rattle.ne_checker.proofs.table_lines.table_checks_tell_equilibria.Goals as goal

pub returns : goal.returns
returns c = table_checks-tell c.table_verdicts_find_equilibria.ensures c.tested_entries_are_profiles.ensures
