use Rattle.lemke_pivot.proofs.PathStartLemmas.{solves_the_form}
use Rattle.lemke_pivot.proofs.laws.solutions_solve_the_form.Goals as goal

pub returns : goal.returns
returns c = solves_the_form
