-- What the enumeration of a system answers
use Rattle.std.specs.Prelude.{◌≡◌, List, length}
use Rattle.answers.specs.Answers.{Answer, ◌>>=◌, such_that, IsSingle}
use Rattle.linear_systems.specs.Vertices.{AreVertices}
use Rattle.lex_tableau.specs.Rows.{WholeTableau}
use Rattle.lex_tableau.specs.Starts.{LinearSystem, system_of}
use Rattle.basis_enum.specs.Systems.{variable_count}
use Rattle.basis_enum.specs.Reached.{reached_in}
use Rattle.basis_enum.specs.declared.stop.EnumerationStop.{EnumerationStop}
use Rattle.basis_enum.specs.Vertices.{VertexList}

-- the number of reached bases, and the system's vertices
pub record IsVertexListOf (s : LinearSystem) (reached : List WholeTableau)
    (v : VertexList) : Type 0 where
  pub bases : v.bases ≡ length reached
  pub list : AreVertices (variable_count s) (system_of s) v.list

-- the vertices of a system, whose bases can all be reached
abbrev pub vertices_in : LinearSystem → Answer EnumerationStop VertexList
vertices_in s = reached_in s >>= (λ reached. such_that (IsVertexListOf s reached))

-- A system has at most one answer.
abbrev pub VerticesAreSingle : Type 0
VerticesAreSingle = (s : LinearSystem) → IsSingle (vertices_in s)
