-- The marks of the basic solutions of tableaux
use Rattle.std.specs.Prelude.{ℕ, suc, ◌<◌, ◌≤◌, ◌≡◌, List, length, get_or, map, Option, Some, None}
use Rattle.std.specs.List.{All, Contains}
use Rattle.lists.specs.Listed.{IsIndexOf}
use Rattle.rational.specs.Rational.{ℚ}
use Rattle.lex_tableau.specs.Rows.{WholeTableau, tableau}
use Rattle.lex_tableau.specs.Starts.{LinearSystem, system_of}
use Rattle.linear_systems.specs.Points.{IsNonzeroAt}
use Rattle.linear_systems.specs.Rows.{basic_solution}
use Rattle.linear_systems.specs.Vertices.{MarkedPoint, IsMarkOf, mask_of}
use Rattle.basis_enum.specs.declared.vertex.Vertex.{Vertex}
use Rattle.basis_enum.specs.Systems.{most_variables, variable_count}
use Rattle.basis_enum.specs.Vertices.{mark_of}

-- each of the variables is one of 1 to n
abbrev pub AreUpTo : ℕ → List ℕ → Type 0
AreUpTo n variables = All (λ v. (0 < v) × (v ≤ n)) variables

-- the row in which each variable that a system may have is basic, or none, for variable v at place
-- v - 1
pub record AreRowsOf (t : WholeTableau) (rows : List (Option ℕ)) : Type 0 where
  pub size : length rows ≡ most_variables
  pub each : (l : ℕ) → l < most_variables → IsIndexOf t.basics (suc l) (get_or rows l None)

-- the values of variables in the basic solution
abbrev pub values_of : WholeTableau → List ℕ → List ℚ
values_of t variables = map (basic_solution (tableau t)) variables

-- the vertex that is the basic solution of t, or none, where that is zero at the system's nonbasic
-- variables
abbrev pub IsVertexOf : LinearSystem → WholeTableau → Option Vertex → Type 0
IsVertexOf s t None = IsNonzeroAt (system_of s) (basic_solution (tableau t)) → ⊥
IsVertexOf s t (Some v) = IsNonzeroAt (system_of s) (basic_solution (tableau t))
    × IsMarkOf (variable_count s) (system_of s) (basic_solution (tableau t)) (mark_of v)

-- the mark is that of the basic solution of one of the tableaux, which is not zero
pub record IsMarkIn (s : LinearSystem) (ts : List WholeTableau) (mark : MarkedPoint) : Type 0 where
  pub of : WholeTableau
  pub among : Contains ts of
  pub nonzero : IsNonzeroAt (system_of s) (basic_solution (tableau of))
  pub marked : IsMarkOf (variable_count s) (system_of s) (basic_solution (tableau of)) mark

-- the marks of all basic solutions of these tableaux that are not zero
pub record AreMarksOf (s : LinearSystem) (ts : List WholeTableau)
    (marks : List MarkedPoint) : Type 0 where
  pub each : (mark : MarkedPoint) → Contains marks mark → IsMarkIn s ts mark
  pub all : (t : WholeTableau) → Contains ts t
      → IsNonzeroAt (system_of s) (basic_solution (tableau t))
      → (mark : MarkedPoint) × Contains marks mark
      × IsMarkOf (variable_count s) (system_of s) (basic_solution (tableau t)) mark

-- the same marks in ascending order of their masks, one of each mask
pub record AreSortedOnce (old new : List MarkedPoint) : Type 0 where
  pub kept : (mark : MarkedPoint) → Contains new mark → Contains old mark
  pub all : (mark : MarkedPoint) → Contains old mark
      → (other : MarkedPoint) × Contains new other × (mask_of other ≡ mask_of mark)
  pub ascending : (i j : ℕ) (d : MarkedPoint) → i < j → j < length new
      → mask_of (get_or new i d) < mask_of (get_or new j d)
