use Rattle.lemke_pivot.proofs.ProblemPathLemmas as Paths
use Rattle.lemke_pivot.proofs.laws.first_rows_exist.Goals as goal

pub returns : goal.returns
returns c = Paths.first_rows_exist
