use Rattle.subgames.proofs.CutSingleLemmas.{cuts-single}
use Rattle.subgames.proofs.cut_laws.cuts_are_single.Goals as goal

pub returns : goal.returns
returns c = cuts-single c.sets_are_numbered_by_first_nodes.ensures
