use Rattle.basis_enum.proofs.OneAnswerLaws.{one_answer}
use Rattle.basis_enum.proofs.vertices_are_single.Goals as goal

pub returns : goal.returns
returns c = one_answer
