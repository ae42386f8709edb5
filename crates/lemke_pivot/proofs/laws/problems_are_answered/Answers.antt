use Rattle.lemke_pivot.proofs.AnsweredProblemLemmas.{problems_answered}
use Rattle.lemke_pivot.proofs.laws.problems_are_answered.Goals as goal

pub returns : goal.returns
returns c = problems_answered
