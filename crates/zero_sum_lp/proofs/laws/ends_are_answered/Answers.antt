use Rattle.zero_sum_lp.proofs.AnsweredPathLemmas.{ends_answered}
use Rattle.zero_sum_lp.proofs.laws.ends_are_answered.Goals as goal

pub returns : goal.returns
returns c = ends_answered
