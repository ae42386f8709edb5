use Rattle.lemke_pivot.proofs.ProblemPathLemmas as Paths
use Rattle.lemke_pivot.proofs.laws.always_a_leaving_row.Goals as goal

pub returns : goal.returns
returns c = Paths.always_a_leaving_row
