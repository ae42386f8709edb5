-- What a row says of a variable, the basic solution, the key of a row, and the lexicographic row of
-- a column (the lexicographic rule against cycling: Dantzig, Orden and Wolfe 1955)
use Rattle.std.specs.Prelude.{ℕ, zero, suc, ◌<◌, ◌≡◌, ◌≢◌, eqb, cond}
use Rattle.rational.specs.Rational.{ℚ, ◌+ℚ◌, ◌*ℚ◌, inv_ℚ, zero_ℚ, one_ℚ, ◌<ℚ◌}
use Rattle.rational.specs.Sum.{sum_to}
use Rattle.linear_systems.specs.Tableau.{Tableau, left}
use Rattle.linear_systems.specs.Lex.{IsLexLess}

-- 1 for variable v, and 0 for the others
abbrev pub unit_at : ℕ → ℕ → ℚ
unit_at v w = cond (eqb w v) one_ℚ zero_ℚ

-- the coefficient of variable v in row i, which is the row's left side where v is 1 and all others
-- are 0
abbrev pub coefficient : Tableau → ℕ → ℕ → ℚ
coefficient t i v = left t (unit_at v) i

-- the solution in which nonbasic variables are 0: each basic variable is its row's right side
abbrev pub basic_solution : Tableau → ℕ → ℚ
basic_solution t v = sum_to t.rows (λ i. t.right i *ℚ unit_at v (t.basic i))

-- the key of row i: its right side, and then its coefficients of the variables b 0, b 1, ..
abbrev pub key : (ℕ → ℕ) → Tableau → ℕ → ℕ → ℚ
key b t i zero = t.right i
key b t i (suc p) = coefficient t i (b p)

-- no variable stands twice
pub record HasDistinctVariables (t : Tableau) : Type 0 where
  pub basic_once : (i k : ℕ) → i < t.rows → k < t.rows → t.basic i ≡ t.basic k → i ≡ k
  pub nonbasic_once : (i k : ℕ) → i < t.width → k < t.width → t.nonbasic i ≡ t.nonbasic k → i ≡ k
  pub apart : (i j : ℕ) → i < t.rows → j < t.width → t.basic i ≢ t.nonbasic j

-- among the first k rows, row r is the lexicographic row of column c, by keys of m + 1 entries
pub record IsLexicographicRowAmong (k m : ℕ) (b : ℕ → ℕ) (t : Tableau) (c r : ℕ) : Type 0 where
  pub within : r < k
  pub positive : zero_ℚ <ℚ t.cell r c
  pub least : (i : ℕ) → i < k → i ≢ r → zero_ℚ <ℚ t.cell i c
      → IsLexLess (suc m) (λ p. key b t r p *ℚ inv_ℚ (t.cell r c))
      (λ p. key b t i p *ℚ inv_ℚ (t.cell i c))

-- row r is the lexicographic row of column c, where the first m rows are rated
abbrev pub IsLexicographicRow : ℕ → (ℕ → ℕ) → Tableau → ℕ → ℕ → Type 0
IsLexicographicRow m b t c r = IsLexicographicRowAmong m m b t c r

-- two tableaux that agree wherever they have cells
pub record Alike (t u : Tableau) : Type 0 where
  pub rows : t.rows ≡ u.rows
  pub width : t.width ≡ u.width
  pub basic : (i : ℕ) → i < t.rows → t.basic i ≡ u.basic i
  pub nonbasic : (j : ℕ) → j < t.width → t.nonbasic j ≡ u.nonbasic j
  pub cell : (i j : ℕ) → i < t.rows → j < t.width → t.cell i j ≡ u.cell i j
  pub right : (i : ℕ) → i < t.rows → t.right i ≡ u.right i

-- a row with its right side: x is a value for each variable, y a factor of the right side
abbrev pub row : Tableau → (ℕ → ℚ) → ℚ → ℕ → ℚ
row t x y i = left t x i +ℚ (y *ℚ t.right i)
