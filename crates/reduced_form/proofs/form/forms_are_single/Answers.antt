use Rattle.reduced_form.proofs.OneFormLaws.{form_of-single}
use Rattle.reduced_form.proofs.form.forms_are_single.Goals as goal

pub returns : goal.returns
returns c = form_of-single
