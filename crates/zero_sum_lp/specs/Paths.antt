-- The path of the simplex method under the lexicographic rule. Source: Dantzig, Orden and Wolfe
-- 1955.
use Rattle.std.specs.Prelude.{ℕ, zero, suc, ◌<◌, ◌≤◌, ◌≡◌}
use Rattle.rational.specs.Rational.{ℚ, zero_ℚ, ◌≤ℚ◌, ◌<ℚ◌}
use Rattle.linear_systems.specs.Tableau.{Tableau, left, pivot}
use Rattle.linear_systems.specs.Rows.{IsLexicographicRow, Alike}
use Rattle.linear_systems.specs.RowEquivalence.{IsStart}

-- A linear program as a tableau. The first `rated` rows are its constraints; the row after them is
-- the objective row, whose variable is to be made greatest. All variables are below `bound`.
pub record LinearProgram : Type 0 where
  pub bound : ℕ
  pub rated : ℕ
  pub start : Tableau

-- a direction that solves the rows with right sides 0, in which no variable falls but those of the
-- rows from m on, and the objective's grows
pub record IsUnbounded (m : ℕ) (s : Tableau) : Type 0 where
  pub along : ℕ → ℚ
  pub holds : (i : ℕ) → i < s.rows → left s along i ≡ zero_ℚ
  pub not_negative : (v : ℕ) → ((i : ℕ) → m ≤ i → i < s.rows → v ≡ s.basic i → ⊥)
      → zero_ℚ ≤ℚ along v
  pub up : zero_ℚ <ℚ along (s.basic m)

-- a linear program whose start is feasible and whose objective is bounded
pub record IsFeasibleAndBounded (g : LinearProgram) : Type 0 where
  pub begins : IsStart g.bound g.rated g.start
  pub objective : g.rated < g.start.rows
  pub feasible : (i : ℕ) → i < g.rated → zero_ℚ ≤ℚ g.start.right i
  pub bounded : IsUnbounded g.rated g.start → ⊥

-- column c enters: of the nonbasic variables with a negative entry in the objective row m, its
-- variable has the least number
pub record IsEntering (m : ℕ) (t : Tableau) (c : ℕ) : Type 0 where
  pub column : c < t.width
  pub negative : t.cell m c <ℚ zero_ℚ
  pub least : (j : ℕ) → j < t.width → t.cell m j <ℚ zero_ℚ → t.nonbasic c ≤ t.nonbasic j

-- no entry of the objective row is negative
abbrev pub IsOptimal : ℕ → Tableau → Type 0
IsOptimal m t = (j : ℕ) → j < t.width → zero_ℚ ≤ℚ t.cell m j

-- one step: the pivot of the entering column at its lexicographic row
pub record IsPathPivot (g : LinearProgram) (t u : Tableau) : Type 0 where
  pub column : ℕ
  pub row : ℕ
  pub entering : IsEntering g.rated t column
  pub leaving : IsLexicographicRow g.rated g.start.basic t column row
  pub turned : Alike (pivot t row column) u

-- t is the tableau after n steps of the path
abbrev pub IsAfter : LinearProgram → ℕ → Tableau → Type 0
IsAfter g zero t = Alike g.start t
IsAfter g (suc n) u = (t : Tableau) × (IsAfter g n t × IsPathPivot g t u)
