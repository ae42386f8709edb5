use Rattle.sequence_form.proofs.FormLemmas.{table_form-single}
use Rattle.sequence_form.proofs.table_forms_are_single.Goals as goal

pub returns : goal.returns
returns c = table_form-single
