use Rattle.reply_polytope.proofs.AnsweredPolytopeLemmas.{polytopes-answered}
use Rattle.reply_polytope.proofs.laws.polytopes_are_answered.Goals as goal

pub returns : goal.returns
returns c = polytopes-answered
