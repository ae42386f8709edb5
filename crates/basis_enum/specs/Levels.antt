-- Levels of bases, and the pivots from one to the next
use Rattle.std.specs.Prelude.{ℕ, ◌+◌, ◌<◌, ◌≡◌, ◌⊎◌, List, [], ◌∷◌, ◌++◌, length, get_or, map}
use Rattle.std.specs.List.{Contains}
use Rattle.std.specs.List.Sorted.{IsStrictlyIncreasing}
use Rattle.frac128.specs.Steps.{Step}
use Rattle.lex_tableau.specs.Ratio.{IsLeavingRow}
use Rattle.lex_tableau.specs.Rows.{WholeTableau, IsTableau, IsPivotOf}
use Rattle.lex_tableau.specs.Pivots.{steps_of_pivot}
use Rattle.basis_enum.specs.Bases.{basis_of, neighbour_of}

-- a pivot from a level: the place of the tableau in the level, a row and a column
pub record Pivot : Type 0 where
  pub parent : ℕ
  pub row : ℕ
  pub column : ℕ

-- what a read past the end of a list of pivots gives
abbrev pub no_pivot : Pivot
no_pivot = record { parent = 0; row = 0; column = 0 }

-- what a read past the end of a list of tableaux gives
abbrev pub no_tableau : WholeTableau
no_tableau = record { starts = []; basics = []; nonbasics = []; rated = 0; numbers = [] }

-- the tableau from which a pivot goes
abbrev pub parent_of : List WholeTableau → Pivot → WholeTableau
parent_of level p = get_or level p.parent no_tableau

-- the variable that enters
abbrev pub entering : List WholeTableau → Pivot → ℕ
entering level p = get_or (parent_of level p).nonbasics p.column 0

-- the basis to which it leads
abbrev pub target : List WholeTableau → Pivot → ℕ
target level p = neighbour_of (parent_of level p) p.row p.column

-- a pivot of a tableau of the level on the lexicographic row of a column
pub record IsPivot (level : List WholeTableau) (p : Pivot) : Type 0 where
  pub parent : p.parent < length level
  pub column : p.column < length (parent_of level p).nonbasics
  pub row : IsLeavingRow (parent_of level p) p.column p.row

-- p comes before q: by the parent's place, and then by the entering variable
abbrev pub IsEarlierPivot : List WholeTableau → Pivot → Pivot → Type 0
IsEarlierPivot level p q =
    (p.parent < q.parent) ⊎ ((p.parent ≡ q.parent) × (entering level p < entering level q))

-- a level, and those before it
pub record Levels : Type 0 where
  pub before : List WholeTableau
  pub level : List WholeTableau

-- the bases of these tableaux
abbrev pub bases_of : List WholeTableau → List ℕ
bases_of ts = map (λ t. basis_of t.nonbasics) ts

-- a basis that no level has so far
abbrev pub IsNew : Levels → ℕ → Type 0
IsNew l b = ¬ (Contains (bases_of (l.before ++ l.level)) b)

-- the pivots to the next level: one to each new neighbour, in ascending order of bases, and of
-- those that lead there the first
pub record AreNextPivots (l : Levels) (pivots : List Pivot) : Type 0 where
  pub each : (p : Pivot) → Contains pivots p → IsPivot l.level p
  pub new : (p : Pivot) → Contains pivots p → IsNew l (target l.level p)
  pub ascending : IsStrictlyIncreasing (map (target l.level) pivots)
  pub all : (p : Pivot) → IsPivot l.level p → IsNew l (target l.level p)
      → Contains (map (target l.level) pivots) (target l.level p)
  pub first : (p q : Pivot) → Contains pivots p → IsPivot l.level q
      → target l.level q ≡ target l.level p → ¬ (IsEarlierPivot l.level q p)

-- the steps of a pivot
abbrev pub steps_of : List WholeTableau → Pivot → List Step
steps_of level p = steps_of_pivot (parent_of level p) p.row p.column

-- how many bases the levels and these pivots have
abbrev pub basis_count : Levels → List Pivot → ℕ
basis_count l pivots = length (l.before ++ l.level) + length pivots

-- the greatest number of bases
abbrev pub most_bases : ℕ
most_bases = 20000

-- new is the tableau after the pivot
pub record IsAfterPivot (level : List WholeTableau) (p : Pivot) (new : WholeTableau) : Type 0 where
  pub is_tableau : IsTableau new
  pub pivot : IsPivotOf (parent_of level p) p.row p.column new

-- level 0, of the start alone
abbrev pub first_level : WholeTableau → Levels
first_level start = record { before = []; level = start ∷ [] }

-- l has the level after p: the tableaux after these pivots
pub record IsNextLevel (p : Levels) (pivots : List Pivot) (l : Levels) : Type 0 where
  pub before : l.before ≡ p.before ++ p.level
  pub size : length l.level ≡ length pivots
  pub tableaux : (i : ℕ) → i < length pivots
      → IsAfterPivot p.level (get_or pivots i no_pivot) (get_or l.level i no_tableau)
