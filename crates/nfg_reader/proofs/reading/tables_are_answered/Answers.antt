use Rattle.nfg_reader.proofs.AnsweredTableLemmas.{table_in-answered}
use Rattle.nfg_reader.proofs.reading.tables_are_answered.Goals as goal

pub returns : goal.returns
returns c = table_in-answered
