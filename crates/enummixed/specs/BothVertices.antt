-- The vertices of both polytopes
use Rattle.answers.specs.Answers.{Answer, only, ◌>>=◌, refused_by}
use Rattle.lex_tableau.specs.Starts.{LinearSystem}
use Rattle.basis_enum.specs.Enumeration.{vertices_in}
use Rattle.basis_enum.specs.Vertices.{VertexList, vertex_list}
use Rattle.basis_enum.specs.declared.vertex.Vertices.{Vertices}
use Rattle.enummixed.specs.Told.{enumeration_stop}
use Rattle.enummixed.specs.declared.stop.MixedStop.{MixedStop}

-- the vertices of the polytopes of two systems, which are numbered 0 and 1
abbrev pub both_vertices_in : LinearSystem → LinearSystem
    → Answer MixedStop (VertexList × VertexList)
both_vertices_in one two = do
  first ← refused_by (enumeration_stop 0) (vertices_in one)
  second ← refused_by (enumeration_stop 1) (vertices_in two)
  only (first, second)

-- two lists of vertices as contracts see them
abbrev pub both_lists_of : Vertices × Vertices → VertexList × VertexList
both_lists_of both = (vertex_list both.0, vertex_list both.1)
