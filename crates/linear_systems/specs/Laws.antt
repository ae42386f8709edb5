-- The laws of tableaux, as statements. Each is proved by a function of src/lib.rt.
use Rattle.std.specs.Prelude.{ℕ, suc, ◌<◌, ◌≤◌, ◌≡◌, ◌≢◌, ◌↔◌, ◌⊎◌}
use Rattle.rational.specs.Rational.{ℚ, ◌+ℚ◌, ◌*ℚ◌, zero_ℚ, ◌≤ℚ◌}
use Rattle.rational.specs.Sum.{sum_to}
use Rattle.linear_systems.specs.Tableau.{Tableau, Solves, pivot}
use Rattle.linear_systems.specs.Lex.{IsLexPositive}
use Rattle.linear_systems.specs.Rows.{key, coefficient, row, IsLexicographicRow, Alike}
use Rattle.linear_systems.specs.RowEquivalence.{IsRowEquivalent, IsStart, HasSameBasis}

-- A pivot keeps the solutions.
abbrev pub PivotKeepsSolutions : Type 0
PivotKeepsSolutions =
    (t u : Tableau) (x : ℕ → ℚ) (r c : ℕ) → r < t.rows → c < t.width → t.cell r c ≢ zero_ℚ
    → Alike (pivot t r c) u → Solves t x ↔ Solves u x

-- A pivot on the lexicographic row keeps every key of a rated row lexicographically positive.
abbrev pub KeysStayPositive : Type 0
KeysStayPositive =
    (m : ℕ) (b : ℕ → ℕ) (t u : Tableau) (c r : ℕ) → m ≤ t.rows → c < t.width
    → IsLexicographicRow m b t c r → Alike (pivot t r c) u
    → ((i : ℕ) → i < m → IsLexPositive (suc m) (key b t i)) → (i : ℕ) → i < m
    → IsLexPositive (suc m) (key b u i)

-- What a pivot on a rated row makes of a tableau that is row-equivalent to a start is so too,
-- whatever the sign of the entry.
pub record PivotsKeepRowEquivalence : Type 0 where
  pub start : (N m : ℕ) (s : Tableau) → IsStart N m s → IsRowEquivalent N m s s
  pub pivot : (N m : ℕ) (s t u : Tableau) (r c : ℕ) → IsStart N m s → IsRowEquivalent N m s t
      → r < m → c < t.width → t.cell r c ≢ zero_ℚ → Alike (pivot t r c) u → IsRowEquivalent N m s u

-- A column of a tableau that is row-equivalent to a start has one lexicographic row, or no rated
-- row has a positive entry there.
pub record LexicographicRowIsOne : Type 0 where
  pub exists : (N m : ℕ) (s t : Tableau) (c : ℕ) → IsStart N m s → IsRowEquivalent N m s t
      → ((i : ℕ) → i < m → t.cell i c ≤ℚ zero_ℚ) ⊎ ((r : ℕ) × IsLexicographicRow m s.basic t c r)
  pub once : (m : ℕ) (b : ℕ → ℕ) (t : Tableau) (c r k : ℕ) → IsLexicographicRow m b t c r
      → IsLexicographicRow m b t c k → r ≡ k

-- Two tableaux that are row-equivalent to a start and have the same rated basic variables are
-- alike, up to the order of rows and columns.
pub record BasisDetermines : Type 0 where
  pub cell : (N m : ℕ) (s t u : Tableau) (i k j l : ℕ) → IsStart N m s → IsRowEquivalent N m s t
      → IsRowEquivalent N m s u → HasSameBasis m t u → i < m → k < m → u.basic i ≡ t.basic k
      → j < s.width → l < s.width → u.nonbasic j ≡ t.nonbasic l → u.cell i j ≡ t.cell k l
  pub right : (N m : ℕ) (s t u : Tableau) (i k : ℕ) → IsStart N m s → IsRowEquivalent N m s t
      → IsRowEquivalent N m s u → HasSameBasis m t u → i < m → k < m → u.basic i ≡ t.basic k
      → u.right i ≡ t.right k

-- Where a tableau is row-equivalent to a start, a row of it that is not rated is the start's row
-- plus the start's rated rows, each times the row's coefficient of that row's basic variable.
abbrev pub UnratedRowsAreTheStarts : Type 0
UnratedRowsAreTheStarts =
    (N m : ℕ) (s t : Tableau) (l : ℕ) (x : ℕ → ℚ) (y : ℚ) → IsStart N m s → m ≤ l → l < s.rows
    → IsRowEquivalent N m s t
    → row t x y l ≡ row s x y l +ℚ sum_to m (λ q. coefficient t l (s.basic q) *ℚ row s x y q)
