use Rattle.enummixed.proofs.VertexPairLemmas.{pairs-single}
use Rattle.enummixed.proofs.extreme_pairs_are_single.Goals as goal

pub returns : goal.returns
returns c = pairs-single
