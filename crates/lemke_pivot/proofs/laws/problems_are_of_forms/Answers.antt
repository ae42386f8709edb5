use Rattle.lemke_pivot.proofs.FormProblemLemmas.{problems_of_forms}
use Rattle.lemke_pivot.proofs.laws.problems_are_of_forms.Goals as goal

pub returns : goal.returns
returns c = problems_of_forms
