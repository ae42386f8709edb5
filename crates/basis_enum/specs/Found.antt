-- The pivots that are found from a level, to bases that are not known
use Rattle.std.specs.Prelude.{ℕ, ◌^◌, ◌<◌, ◌≡◌, ◌++◌, List, length, get_or}
use Rattle.std.specs.List.{Contains}
use Rattle.lex_tableau.specs.Rows.{WholeTableau, IsTableau}
use Rattle.basis_enum.specs.Bases.{neighbour_of, HaveDigits}
use Rattle.basis_enum.specs.Levels.{Levels, no_tableau, bases_of}
use Rattle.lex_tableau.specs.Ratio.{IsLeavingRow}
use Rattle.basis_enum.specs.declared.found_pivots.FoundPivot.{FoundPivot}

-- all rows are rated, and rows and columns have numbers of 32 bits
pub record IsWhole (t : WholeTableau) : Type 0 where
  pub rated : t.rated ≡ length t.basics
  pub rows : length t.basics < 2 ^ 32
  pub columns : length t.nonbasics < 2 ^ 32

-- the pivot from t on the lexicographic row of the column, to a basis that is not known
pub record IsFound (t : WholeTableau) (place : ℕ) (known : List ℕ) (col : ℕ) (p : FoundPivot)
    : Type 0 where
  pub parent : p.parent ≡ place
  pub column : p.column ≡ col
  pub row : IsLeavingRow t col p.row
  pub entering : p.entering ≡ get_or t.nonbasics col 0
  pub target : p.target ≡ neighbour_of t p.row col
  pub new : ¬ (Contains known p.target)

-- the pivot in this column, where there is one, leads to a known basis
abbrev pub LeadsBack : WholeTableau → List ℕ → ℕ → Type 0
LeadsBack t known column =
    (r : ℕ) → IsLeavingRow t column r → Contains known (neighbour_of t r column)

-- among these is the pivot in this column
abbrev pub HasFound : WholeTableau → ℕ → List ℕ → List FoundPivot → ℕ → Type 0
HasFound t place known found column =
    (p : FoundPivot) × Contains found p × IsFound t place known column p

-- a column, with such a pivot
pub record IsFoundFrom (t : WholeTableau) (place : ℕ) (known : List ℕ) (p : FoundPivot)
    : Type 0 where
  pub column : ℕ
  pub within : column < length t.nonbasics
  pub found : IsFound t place known column p

-- of each of its columns the pivot is among these, or leads to a known basis
abbrev pub HasAllFound : WholeTableau → ℕ → List ℕ → List FoundPivot → Type 0
HasAllFound t place known found =
    (column r : ℕ) → column < length t.nonbasics → IsLeavingRow t column r
    → ¬ (Contains known (neighbour_of t r column)) → HasFound t place known found column

-- the pivots from t that lead to new bases
pub record AreFound (t : WholeTableau) (place : ℕ) (known : List ℕ) (found : List FoundPivot)
    : Type 0 where
  pub each : (p : FoundPivot) → Contains found p → IsFoundFrom t place known p
  pub all : HasAllFound t place known found

-- a tableau of the level and a column, with such a pivot
pub record IsFoundIn (level : List WholeTableau) (known : List ℕ) (p : FoundPivot) : Type 0 where
  pub place : ℕ
  pub within : place < length level
  pub from_there : IsFoundFrom (get_or level place no_tableau) place known p

-- the pivots from the level that lead to new bases
pub record AreFoundIn (level : List WholeTableau) (known : List ℕ) (found : List FoundPivot)
    : Type 0 where
  pub each : (p : FoundPivot) → Contains found p → IsFoundIn level known p
  pub all : (place : ℕ) → place < length level
      → HasAllFound (get_or level place no_tableau) place known found

-- a tableau whose pivots can be found
pub record IsReady (t : WholeTableau) : Type 0 where
  pub is_tableau : IsTableau t
  pub digits : HaveDigits t
  pub whole : IsWhole t

-- each of these can be
abbrev pub AreReady : List WholeTableau → Type 0
AreReady level = (i : ℕ) → i < length level → IsReady (get_or level i no_tableau)

-- the bases that are known are those of the levels
pub record AreKnown (l : Levels) (known : List ℕ) : Type 0 where
  pub all : (b : ℕ) → Contains (bases_of (l.before ++ l.level)) b → Contains known b
  pub only : (b : ℕ) → Contains known b → Contains (bases_of (l.before ++ l.level)) b
