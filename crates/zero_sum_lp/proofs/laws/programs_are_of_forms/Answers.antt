use Rattle.zero_sum_lp.proofs.FormLaws.{programs_of_forms}
use Rattle.zero_sum_lp.proofs.laws.programs_are_of_forms.Goals as goal

pub returns : goal.returns
returns c = programs_of_forms
