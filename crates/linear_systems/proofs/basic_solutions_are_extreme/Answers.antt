use Rattle.linear_systems.proofs.SolutionLemmas.{solution_extreme}
use Rattle.linear_systems.proofs.basic_solutions_are_extreme.Goals as goal

pub returns : goal.returns
returns c = λ N s t st p. solution_extreme N s t p
