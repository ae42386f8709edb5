use Rattle.lemke_pivot.proofs.ProblemPathLemmas as Paths
use Rattle.lemke_pivot.proofs.laws.no_basis_occurs_twice.Goals as goal

pub returns : goal.returns
returns c = Paths.no_basis_occurs_twice
