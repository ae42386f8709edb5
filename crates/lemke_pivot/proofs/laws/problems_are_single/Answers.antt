use Rattle.lemke_pivot.proofs.ProblemAnswerLemmas.{problems_single}
use Rattle.lemke_pivot.proofs.laws.problems_are_single.Goals as goal

pub returns : goal.returns
returns c = problems_single
