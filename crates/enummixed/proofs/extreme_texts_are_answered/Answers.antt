use Rattle.enummixed.proofs.AnsweredTextLemmas.{extreme_texts-answered}
use Rattle.enummixed.proofs.extreme_texts_are_answered.Goals as goal

pub returns : goal.returns
returns c = extreme_texts-answered
