use Rattle.lemke_pivot.proofs.PathEndLemmas.{ends_same}
use Rattle.lemke_pivot.proofs.laws.ends_are_single.Goals as goal

pub returns : goal.returns
returns c = ends_same
