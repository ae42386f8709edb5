use Rattle.sequence_form.proofs.AnsweredFormLemmas.{table_form-answered}
use Rattle.sequence_form.proofs.table_forms_are_answered.Goals as goal

pub returns : goal.returns
returns c = table_form-answered
