use Rattle.sequence_form.proofs.Laws.{tree_pays}
use Rattle.sequence_form.proofs.tree_forms_pay_plans.Goals as goal

pub returns : goal.returns
returns c = tree_pays
