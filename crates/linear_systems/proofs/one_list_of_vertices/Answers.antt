use Rattle.linear_systems.proofs.VertexListLemmas.{vertices_determined}
use Rattle.linear_systems.proofs.one_list_of_vertices.Goals as goal

pub returns : goal.returns
returns c = vertices_determined
