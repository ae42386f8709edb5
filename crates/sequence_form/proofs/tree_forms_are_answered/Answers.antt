use Rattle.sequence_form.proofs.AnsweredFormLemmas.{tree_form-answered}
use Rattle.sequence_form.proofs.tree_forms_are_answered.Goals as goal

pub returns : goal.returns
returns c = tree_form-answered
