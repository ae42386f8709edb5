-- Row equivalence of tableaux, which pivots on the first m rows keep
use Rattle.std.specs.Prelude.{ℕ, ◌<◌, ◌≤◌, ◌≡◌}
use Rattle.rational.specs.Rational.{ℚ, ◌*ℚ◌, ◌-ℚ◌}
use Rattle.rational.specs.Sum.{sum_to}
use Rattle.linear_systems.specs.Tableau.{Tableau}
use Rattle.linear_systems.specs.Rows.{row, HasDistinctVariables}

-- F is a sum of multiples of the first n rows of t, whatever the variables' values and the factor
-- of the right side
pub record IsCombination (n : ℕ) (t : Tableau) (F : (ℕ → ℚ) → ℚ → ℚ) : Type 0 where
  pub by : ℕ → ℚ
  pub same : (x : ℕ → ℚ) (y : ℚ) → F x y ≡ sum_to n (λ q. by q *ℚ row t x y q)

-- v is a variable of t
pub data IsVariableOf (t : Tableau) (v : ℕ) : Type 0 where
  in_row : (i : ℕ) → i < t.rows → t.basic i ≡ v → IsVariableOf t v
  in_column : (j : ℕ) → j < t.width → t.nonbasic j ≡ v → IsVariableOf t v

-- t is row-equivalent to s, and has its variables: the first m rows of t and those of s are sums of
-- multiples of each other, and every later row of t is that of s and such a sum; no variable stands
-- twice, and all are below N
pub record IsRowEquivalent (N m : ℕ) (s t : Tableau) : Type 0 where
  pub rows : t.rows ≡ s.rows
  pub width : t.width ≡ s.width
  pub proper : HasDistinctVariables t
  pub variables : (v : ℕ) → IsVariableOf s v → IsVariableOf t v
  pub from : (k : ℕ) → k < m → IsCombination m s (λ x y. row t x y k)
  pub back : (k : ℕ) → k < m → IsCombination m t (λ x y. row s x y k)
  pub rest : (k : ℕ) → m ≤ k → k < s.rows → IsCombination m s (λ x y. row t x y k -ℚ row s x y k)
  pub stays : (k : ℕ) → m ≤ k → k < s.rows → t.basic k ≡ s.basic k
  pub basic_below : (i : ℕ) → i < s.rows → t.basic i < N
  pub nonbasic_below : (j : ℕ) → j < s.width → t.nonbasic j < N

-- a system with m rated rows, those on which pivots are made; no variable stands twice, and all are
-- below N
pub record IsStart (N m : ℕ) (s : Tableau) : Type 0 where
  pub rated : m ≤ s.rows
  pub proper : HasDistinctVariables s
  pub basic_below : (i : ℕ) → i < s.rows → s.basic i < N
  pub nonbasic_below : (j : ℕ) → j < s.width → s.nonbasic j < N

-- each of the first m basic variables of t is one of those of u
pub record HasSameBasis (m : ℕ) (t u : Tableau) : Type 0 where
  pub other : ℕ → ℕ
  pub within : (q : ℕ) → q < m → other q < m
  pub basic : (q : ℕ) → q < m → t.basic q ≡ u.basic (other q)
