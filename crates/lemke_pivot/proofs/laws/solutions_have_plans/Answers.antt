use Rattle.lemke_pivot.proofs.SolutionLemmas as Solutions
use Rattle.lemke_pivot.proofs.laws.solutions_have_plans.Goals as goal

pub returns : goal.returns
returns c = Solutions.solutions_have_plans
