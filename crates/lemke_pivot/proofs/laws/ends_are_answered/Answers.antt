use Rattle.lemke_pivot.proofs.AnsweredPathLemmas.{ends_answered}
use Rattle.lemke_pivot.proofs.laws.ends_are_answered.Goals as goal

pub returns : goal.returns
returns c = ends_answered
