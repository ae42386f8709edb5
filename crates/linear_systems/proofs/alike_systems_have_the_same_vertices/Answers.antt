use Rattle.linear_systems.proofs.AlikeVertexLemmas.{vertices_alike}
use Rattle.linear_systems.proofs.alike_systems_have_the_same_vertices.Goals as goal

pub returns : goal.returns
returns c = vertices_alike
