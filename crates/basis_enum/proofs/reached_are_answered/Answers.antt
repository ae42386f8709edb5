use Rattle.basis_enum.proofs.AnsweredLevelLemmas.{reached-answered}
use Rattle.basis_enum.proofs.reached_are_answered.Goals as goal

pub returns : goal.returns
returns c = reached-answered
