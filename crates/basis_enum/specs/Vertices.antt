-- What vertices stand for
use Rattle.std.specs.Prelude.{ℕ, List, get_or, map}
use Rattle.linear_systems.specs.Vertices.{MarkedPoint}
use Rattle.basis_enum.specs.declared.vertex.Vertex.{Vertex}
use Rattle.basis_enum.specs.declared.vertex.Vertices.{Vertices}

-- the number of reached bases, and the vertices
pub record VertexList : Type 0 where
  pub bases : ℕ
  pub list : List MarkedPoint

-- what a vertex stands for
abbrev pub mark_of : Vertex → MarkedPoint
mark_of v = record { low = get_or v.mask 0 0; high = get_or v.mask 1 0; point = v.point.items }

-- what vertices stand for, in their order
abbrev pub marks_of : List Vertex → List MarkedPoint
marks_of vertices = map mark_of vertices

-- what an enumeration's answer stands for
abbrev pub vertex_list : Vertices → VertexList
vertex_list v = record { bases = v.bases; list = marks_of v.list.items }
