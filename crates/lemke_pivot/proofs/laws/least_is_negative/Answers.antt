use Rattle.lemke_pivot.proofs.ProblemPathLemmas as Paths
use Rattle.lemke_pivot.proofs.laws.least_is_negative.Goals as goal

pub returns : goal.returns
returns c = Paths.least_is_negative
