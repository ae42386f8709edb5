use Rattle.lemke_pivot.proofs.PathStartLemmas.{solves_tables}
use Rattle.lemke_pivot.proofs.laws.solutions_solve_tables.Goals as goal

pub returns : goal.returns
returns c = solves_tables
