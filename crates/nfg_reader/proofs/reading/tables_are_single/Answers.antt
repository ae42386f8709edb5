use Rattle.nfg_reader.proofs.OneAnswerLaws.{table_in-single}
use Rattle.nfg_reader.proofs.reading.tables_are_single.Goals as goal

pub returns : goal.returns
returns c = table_in-single
