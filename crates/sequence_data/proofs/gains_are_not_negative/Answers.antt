use Rattle.sequence_data.proofs.GainLemmas.{gains_positive}
use Rattle.sequence_data.proofs.gains_are_not_negative.Goals as goal

pub returns : goal.returns
returns c = λ f r q valid. gains_positive f valid r q
