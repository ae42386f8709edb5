use Rattle.enumpure.proofs.AnsweredTextLemmas.{pure_text-answered}
use Rattle.enumpure.proofs.listing.pure_texts_are_answered.Goals as goal

pub returns : goal.returns
returns c = pure_text-answered
