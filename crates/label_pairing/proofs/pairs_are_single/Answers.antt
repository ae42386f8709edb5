use Rattle.label_pairing.proofs.AllPairLemmas.{pairs_single}
use Rattle.label_pairing.proofs.pairs_are_single.Goals as goal

pub returns : goal.returns
returns c = pairs_single
