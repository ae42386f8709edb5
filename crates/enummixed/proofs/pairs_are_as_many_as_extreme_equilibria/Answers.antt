use Rattle.enummixed.proofs.VertexPairLemmas.{pairs-counted}
use Rattle.enummixed.proofs.pairs_are_as_many_as_extreme_equilibria.Goals as goal

pub returns : goal.returns
returns c = pairs-counted
