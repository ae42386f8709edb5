use Rattle.lemke_pivot.proofs.ProblemPathLemmas as Paths
use Rattle.lemke_pivot.proofs.laws.paths_end_solved.Goals as goal

pub returns : goal.returns
returns c = Paths.paths_end_solved
