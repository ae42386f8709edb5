use Rattle.verdicts.proofs.TableSingleLemmas.{verdict_once}
use Rattle.verdicts.proofs.tables.table_verdicts_are_single.Goals as goal

pub returns : goal.returns
returns c = verdict_once
