use Rattle.zero_sum_lp.proofs.ProgramAnswerLemmas.{programs_single}
use Rattle.zero_sum_lp.proofs.laws.programs_are_single.Goals as goal

pub returns : goal.returns
returns c = programs_single
