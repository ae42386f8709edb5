use Rattle.sequence_form.proofs.FormLemmas.{tree_form-single}
use Rattle.sequence_form.proofs.tree_forms_are_single.Goals as goal

pub returns : goal.returns
returns c = tree_form-single
