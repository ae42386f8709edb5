-- The laws of extreme points, as statements. Each is proved by a function of src/lib.rt.
use Rattle.std.specs.Prelude.{ℕ, ◌<◌, ◌≡◌, List}
use Rattle.rational.specs.Rational.{ℚ, zero_ℚ}
use Rattle.linear_systems.specs.Tableau.{Tableau, pivot}
use Rattle.linear_systems.specs.Rows.{basic_solution, IsLexicographicRow, Alike}
use Rattle.linear_systems.specs.RowEquivalence.{IsVariableOf}
use Rattle.linear_systems.specs.Points.{IsExtremePoint, AreEqualAt}
use Rattle.linear_systems.specs.LexFeasible.{IsFeasibleStart, IsLexFeasible, IsClosed}
use Rattle.linear_systems.specs.Vertices.{MarkedPoint, AreVertices}

-- The start is lexicographically feasible, and so is what a pivot on a lexicographic row makes of
-- such a tableau.
pub record LexicographicPivotsKeepFeasibility : Type 0 where
  pub start : (N : ℕ) (s : Tableau) → IsFeasibleStart N s → IsLexFeasible N s s
  pub alike : (N : ℕ) (s t u : Tableau) → IsFeasibleStart N s → Alike t u → IsLexFeasible N s t
      → IsLexFeasible N s u
  pub pivot : (N : ℕ) (s t u : Tableau) (r c : ℕ) → IsFeasibleStart N s → IsLexFeasible N s t
      → c < s.width → IsLexicographicRow s.rows s.basic t c r → Alike (pivot t r c) u
      → IsLexFeasible N s u

-- The basic solution of a lexicographically feasible tableau is an extreme point.
abbrev pub BasicSolutionsAreExtreme : Type 0
BasicSolutionsAreExtreme =
    (N : ℕ) (s t : Tableau) → IsFeasibleStart N s → IsLexFeasible N s t
    → IsExtremePoint s (basic_solution t)

-- one of these tableaux has p for its basic solution
pub record HasPoint (s : Tableau) (K : ℕ) (ts : ℕ → Tableau) (p : ℕ → ℚ) : Type 0 where
  pub place : ℕ
  pub within : place < K
  pub same : AreEqualAt s p (basic_solution (ts place))

-- Among lexicographically feasible tableaux that are closed under lexicographic pivots, each
-- extreme point is a basic solution, degenerate ones too.
abbrev pub ClosedSetsCover : Type 0
ClosedSetsCover =
    (N : ℕ) (s : Tableau) (K : ℕ) (ts : ℕ → Tableau) (p : ℕ → ℚ) → IsFeasibleStart N s → 0 < K
    → ((k : ℕ) → k < K → IsLexFeasible N s (ts k)) → IsClosed s K ts → IsExtremePoint s p
    → HasPoint s K ts p

-- Two extreme points are equal where the second is 0 wherever the first is.
abbrev pub ZerosDetermine : Type 0
ZerosDetermine =
    (s : Tableau) (p q : ℕ → ℚ) → IsExtremePoint s p → IsExtremePoint s q
    → ((v : ℕ) → IsVariableOf s v → p v ≡ zero_ℚ → q v ≡ zero_ℚ) → AreEqualAt s p q

-- A system has at most one list of vertices.
abbrev pub OneListOfVertices : Type 0
OneListOfVertices =
    (n : ℕ) (s : Tableau) (a b : List MarkedPoint) → AreVertices n s a → AreVertices n s b → a ≡ b

-- Systems that are alike have the same lists of vertices.
abbrev pub AlikeSystemsHaveTheSameVertices : Type 0
AlikeSystemsHaveTheSameVertices =
    (n : ℕ) (s t : Tableau) (list : List MarkedPoint) → Alike s t → AreVertices n t list
    → AreVertices n s list
