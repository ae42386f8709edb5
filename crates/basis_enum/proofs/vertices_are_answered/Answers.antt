use Rattle.basis_enum.proofs.AnsweredVertexLemmas.{vertices-answered}
use Rattle.basis_enum.proofs.vertices_are_answered.Goals as goal

pub returns : goal.returns
returns c = vertices-answered
