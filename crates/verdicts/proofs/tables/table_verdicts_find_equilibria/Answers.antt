use Rattle.verdicts.proofs.TableVerdictLemmas.{verdicts-tell}
use Rattle.verdicts.proofs.tables.table_verdicts_find_equilibria.Goals as goal

pub returns : goal.returns
returns c = verdicts-tell
