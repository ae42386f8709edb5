-- Systems of fractions, and their starts
use Rattle.std.specs.Prelude.{ℕ, ◌+◌, ◌*◌, ◌<◌, ◌≤◌, ◌≡◌, ◌^◌, refl, List, length, get_or}
use Rattle.std.specs.Coded.{Coded, code_by, coded×, coded_ℕ, coded_list}
use Rattle.rational.specs.Rational.{ℚ}
use Rattle.rational.proofs.CodeLemmas.{code_ℚ}
use Rattle.linear_systems.specs.Tableau.{Tableau}
use Rattle.linear_systems.specs.Rows.{HasDistinctVariables, Alike}
pub use Rattle.whole_rows.specs.StartRows.{cells_from, start_steps, start_rows_fit}
use Rattle.lex_tableau.specs.Rows.{WholeTableau, tableau}

-- what contracts see of a system: its variables, its cells row by row with the right side last in
-- each row, and how many rows are rated
pub record LinearSystem : Type 0 where
  pub basics : List ℕ
  pub nonbasics : List ℕ
  pub cells : List ℚ
  pub rated : ℕ

-- such a value, from its parts
abbrev pub linear_system : List ℕ → List ℕ → List ℚ → ℕ → LinearSystem
linear_system basics nonbasics cells rated =
    record { basics = basics; nonbasics = nonbasics; cells = cells; rated = rated }

-- a system is stored as its three lists and a number
abbrev pub code_of_parts : Coded LinearSystem
code_of_parts =
    code_by (List ℕ × (List ℕ × (List ℚ × ℕ)))
    (coded× (coded_list coded_ℕ) (coded× (coded_list coded_ℕ) (coded× (coded_list code_ℚ) coded_ℕ)))
    (λ s. (s.basics, (s.nonbasics, (s.cells, s.rated))))
    (λ p. linear_system p.0 p.1.0 p.1.1.0 p.1.1.1) (λ _. refl)

-- the tableau that a system is
abbrev pub system_of : LinearSystem → Tableau
system_of s =
    record {
      rows = length s.basics;
      width = length s.nonbasics;
      basic = λ i. get_or s.basics i 0;
      nonbasic = λ j. get_or s.nonbasics j 0;
      cell = λ i j. cells_from s.cells (i * (length s.nonbasics + 1)) j;
      right = λ i. cells_from s.cells (i * (length s.nonbasics + 1)) (length s.nonbasics);
    }

-- a system: no variable stands twice, each row has a cell for each column and a right side, and the
-- rated rows are among the rows; variables and the number of rows are below 2^32
pub record IsSystem (s : LinearSystem) : Type 0 where
  pub distinct : HasDistinctVariables (system_of s)
  pub shape : length s.cells ≡ length s.basics * (length s.nonbasics + 1)
  pub rated : s.rated ≤ length s.basics
  pub basics_small : (i : ℕ) → get_or s.basics i 0 < 2 ^ 32
  pub nonbasics_small : (j : ℕ) → get_or s.nonbasics j 0 < 2 ^ 32
  pub few : length s.basics < 2 ^ 32

-- n has the fractions, variables and rated rows of a system
pub record IsStartOf (s : LinearSystem) (n : WholeTableau) : Type 0 where
  pub fractions : Alike (system_of s) (tableau n)
  pub starts : n.starts ≡ s.basics
  pub rated : n.rated ≡ s.rated
