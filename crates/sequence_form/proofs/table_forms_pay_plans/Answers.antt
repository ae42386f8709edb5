use Rattle.sequence_form.proofs.Laws.{table_pays}
use Rattle.sequence_form.proofs.table_forms_pay_plans.Goals as goal

pub returns : goal.returns
returns c = table_pays
