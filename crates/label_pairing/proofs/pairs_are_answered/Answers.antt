use Rattle.label_pairing.proofs.AnsweredPairLemmas.{pairs-answered}
use Rattle.label_pairing.proofs.pairs_are_answered.Goals as goal

pub returns : goal.returns
returns c = pairs-answered
