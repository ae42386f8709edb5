use Rattle.enummixed.proofs.AnsweredPairLemmas.{extreme_pairs-answered}
use Rattle.enummixed.proofs.extreme_pairs_are_answered.Goals as goal

pub returns : goal.returns
returns c = extreme_pairs-answered
