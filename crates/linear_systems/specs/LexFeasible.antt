-- Lexicographically feasible tableaux, which pivots on lexicographic rows lead to from a start
-- whose right sides are not negative, all rows rated
use Rattle.std.specs.Prelude.{ℕ, suc, ◌<◌, ◌≡◌, ◌≢◌}
use Rattle.rational.specs.Rational.{zero_ℚ, ◌≤ℚ◌}
use Rattle.linear_systems.specs.Tableau.{Tableau}
use Rattle.linear_systems.specs.Lex.{IsLexPositive}
use Rattle.linear_systems.specs.Rows.{key, IsLexicographicRow}
use Rattle.linear_systems.specs.RowEquivalence.{IsStart, IsRowEquivalent, IsVariableOf}

-- a start with all rows rated and no negative right side: its basic solution is feasible
pub record IsFeasibleStart (N : ℕ) (s : Tableau) : Type 0 where
  pub start : IsStart N s.rows s
  pub right : (i : ℕ) → i < s.rows → zero_ℚ ≤ℚ s.right i

-- t is row-equivalent to s, its variables are those of s, and the keys of its rows are
-- lexicographically positive
pub record IsLexFeasible (N : ℕ) (s t : Tableau) : Type 0 where
  pub reached : IsRowEquivalent N s.rows s t
  pub variables : (v : ℕ) → IsVariableOf t v → IsVariableOf s v
  pub keys : (i : ℕ) → i < s.rows → IsLexPositive (suc s.rows) (key s.basic t i)

-- v is basic in t
pub record IsBasic (t : Tableau) (v : ℕ) : Type 0 where
  pub row : ℕ
  pub within : row < t.rows
  pub here : t.basic row ≡ v

-- u has the basis of t, but for the variable of row r, in whose place is that of column c
pub record IsNeighbour (t : Tableau) (r c : ℕ) (u : Tableau) : Type 0 where
  pub entered : IsBasic u (t.nonbasic c)
  pub stayed : (i : ℕ) → i < t.rows → i ≢ r → IsBasic u (t.basic i)

-- among these tableaux is one with the basis
pub record HasNeighbour (K : ℕ) (ts : ℕ → Tableau) (t : Tableau) (r c : ℕ) : Type 0 where
  pub place : ℕ
  pub within : place < K
  pub neighbour : IsNeighbour t r c (ts place)

-- each pivot on a lexicographic row leads from one of these K tableaux to the basis of one of them
pub record IsClosed (s : Tableau) (K : ℕ) (ts : ℕ → Tableau) : Type 0 where
  pub to : (k : ℕ) → k < K → (r c : ℕ) → c < s.width
      → IsLexicographicRow s.rows s.basic (ts k) c r → HasNeighbour K ts (ts k) r c
