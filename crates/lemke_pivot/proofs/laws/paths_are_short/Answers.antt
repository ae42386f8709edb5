use Rattle.lemke_pivot.proofs.ProblemPathLemmas as Paths
use Rattle.lemke_pivot.proofs.laws.paths_are_short.Goals as goal

pub returns : goal.returns
returns c = Paths.paths_are_short
