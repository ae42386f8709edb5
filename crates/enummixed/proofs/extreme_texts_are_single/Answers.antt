use Rattle.enummixed.proofs.VertexPairLemmas.{texts-single}
use Rattle.enummixed.proofs.extreme_texts_are_single.Goals as goal

pub returns : goal.returns
returns c = texts-single
