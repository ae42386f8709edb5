-- The enumeration on its way, level after level
use Rattle.std.specs.Prelude.{ℕ, ◌≡◌, List, [], ◌++◌, length, map, Err, Ok}
use Rattle.answers.specs.Answers.{Gives}
use Rattle.std.specs.List.{Contains}
use Rattle.std.specs.List.Sorted.{IsStrictlyIncreasing}
use Rattle.lex_tableau.specs.Rows.{WholeTableau}
use Rattle.lex_tableau.specs.Starts.{LinearSystem, IsSystem}
use Rattle.basis_enum.specs.Levels.{Levels, entering}
use Rattle.basis_enum.specs.Reached.{bases_within, level_of, pivots_fit, reached_in}
use Rattle.basis_enum.specs.declared.found_pivots.FoundPivot.{FoundPivot}
use Rattle.basis_enum.specs.declared.stop.EnumerationStop.{EnumerationStop}
use Rattle.basis_enum.specs.declared.stop.EnumerationStop.TheVariants.{Memory}
use Rattle.basis_enum.specs.declared.vertex.Vertex.{Vertex}
use Rattle.basis_enum.specs.declared.walk.Walk.{Walk}
use Rattle.basis_enum.specs.Found.{AreKnown}
use Rattle.basis_enum.specs.Marks.{AreMarksOf}
use Rattle.basis_enum.specs.Next.{AreNewPivots, pivot_of}
use Rattle.basis_enum.specs.Vertices.{marks_of}

-- a level, and those before it
abbrev pub levels_of : List WholeTableau → List WholeTableau → Levels
levels_of before level = record { before = before; level = level }

-- at level k of the system: its tableaux, the bases of all levels so far in ascending order, and
-- the marks of their tableaux
pub record IsWalkAt (s : LinearSystem) (k : ℕ) (w : Walk) : Type 0 where
  pub valid : IsSystem s
  pub before : List WholeTableau
  pub is_level : level_of s k (Ok (levels_of before w.level.items))
  pub known : AreKnown (levels_of before w.level.items) w.known.items
  pub ascending : IsStrictlyIncreasing w.known.items
  pub count : length w.known.items ≡ length (before ++ w.level.items)
  pub marks : AreMarksOf s (before ++ w.level.items) (marks_of w.vertices.items)

-- at the last level
pub record IsWalkToEnd (s : LinearSystem) (w : Walk) : Type 0 where
  pub number : ℕ
  pub walk : IsWalkAt s number w
  pub none : AreNewPivots w.level.items w.known.items []

-- the entering variables are those of the columns
abbrev pub HaveEntering : List WholeTableau → List FoundPivot → Type 0
HaveEntering level next =
    (p : FoundPivot) → Contains next p → p.entering ≡ entering level (pivot_of p)

-- why not all pivots from level k fit, or no memory
abbrev pub IsLevelStop : List WholeTableau → List FoundPivot → ℕ → EnumerationStop → Type 0
IsLevelStop level next k stop = Gives Memory (pivots_fit k level (map pivot_of next)) (Err stop)

-- so many bases are too many, or no memory
abbrev pub IsCountStop : ℕ → EnumerationStop → Type 0
IsCountStop bases stop = Gives Memory (bases_within bases) (Err stop)

-- why the bases are not all reached, or no memory
abbrev pub IsEnumerationStop : LinearSystem → EnumerationStop → Type 0
IsEnumerationStop s stop = Gives Memory (reached_in s) (Err stop)

-- the vertices of these tableaux come to those of any others
abbrev pub AddsVertices : LinearSystem → List WholeTableau → List Vertex → List Vertex → Type 0
AddsVertices s level old new =
    (ts : List WholeTableau) → AreMarksOf s ts (marks_of old)
    → AreMarksOf s (ts ++ level) (marks_of new)

-- where the vertices of a level's first tableaux are added, so are then those of more of them
abbrev pub AddsMoreVertices
    : LinearSystem → List WholeTableau → List WholeTableau → List Vertex → List Vertex → Type 0
AddsMoreVertices s some more old new =
    (first : List Vertex) → AddsVertices s some first old → AddsVertices s more first new
