-- That a system has an answer, as statements. Each is proved by a function of src/lib.rt.
use Rattle.answers.specs.Answered.{IsAnswered}
use Rattle.lex_tableau.specs.Starts.{LinearSystem, IsSystem}
use Rattle.basis_enum.specs.Enumeration.{vertices_in}
use Rattle.basis_enum.specs.Reached.{reached_in}
use Rattle.basis_enum.specs.Systems.{IsEnumerable}

-- A system has an answer: a list of tableaux, or why one of them is not reached.
abbrev pub ReachedAreAnswered : Type 0
ReachedAreAnswered = (s : LinearSystem) → IsSystem s → IsEnumerable s → IsAnswered (reached_in s)

-- A system has an answer: its vertices, or why they are not listed.
abbrev pub VerticesAreAnswered : Type 0
VerticesAreAnswered = (s : LinearSystem) → IsSystem s → IsEnumerable s → IsAnswered (vertices_in s)
