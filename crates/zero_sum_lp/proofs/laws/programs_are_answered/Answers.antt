use Rattle.zero_sum_lp.proofs.AnsweredProgramLemmas.{programs_answered}
use Rattle.zero_sum_lp.proofs.laws.programs_are_answered.Goals as goal

pub returns : goal.returns
returns c = programs_answered
