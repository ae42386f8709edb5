use Rattle.lemke_pivot.proofs.PathStartLemmas.{solves_trees}
use Rattle.lemke_pivot.proofs.laws.solutions_solve_trees.Goals as goal

pub returns : goal.returns
returns c = solves_trees
