use Rattle.linear_systems.proofs.CoverLemmas.{covers}
use Rattle.linear_systems.proofs.closed_sets_cover.Goals as goal

pub returns : goal.returns
returns c = covers
