use Rattle.sequence_form.proofs.Laws.{table_stands}
use Rattle.sequence_form.proofs.table_forms_stand_for_tables.Goals as goal

pub returns : goal.returns
returns c = table_stands
