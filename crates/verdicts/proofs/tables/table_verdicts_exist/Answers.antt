use Rattle.verdicts.proofs.AnsweredVerdictLemmas.{table_verdicts-exist}
use Rattle.verdicts.proofs.tables.table_verdicts_exist.Goals as goal

pub returns : goal.returns
returns c = table_verdicts-exist
