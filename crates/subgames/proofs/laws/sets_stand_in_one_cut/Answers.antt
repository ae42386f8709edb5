use Rattle.subgames.proofs.CutMemberLemmas.{sets_stand_in_one_cut}
use Rattle.subgames.proofs.laws.sets_stand_in_one_cut.Goals as goal

pub returns : goal.returns
returns c = sets_stand_in_one_cut
