use Rattle.label_pairing.proofs.AllPairLemmas.{exactly_those}
use Rattle.label_pairing.proofs.pairs_are_exactly_those.Goals as goal

pub returns : goal.returns
returns c = exactly_those
