-- Rows that stand in a list of numbers. `own` and `first` are where a row and the pivot's row
-- begin, and `column` is the place of the pivot's column.
use Rattle.std.specs.Prelude.{ℕ, ℤ, pos, ◌*ℤ◌, ◌+◌, ◌*◌, ◌<◌, ◌≤◌, ◌≡◌, ◌≢◌, ◌⊎◌, List, get_or, Option, MatchOption, IfSome, eqb, cond, [], All}
use Rattle.rational.specs.Rational.{ℚ}
use Rattle.frac128.specs.Fraction.{PartFits}
use Rattle.whole_rows.specs.Rows.{from_place, IsRow}
use Rattle.frac128.specs.Steps.{Step, StepFits}
use Rattle.whole_rows.specs.Pivots.{place_steps, place_number, steps_to, row_steps, pivot_steps}
use Rattle.whole_rows.specs.PivotedRows.{IsPivotedRow, IsPivotRow}
use Rattle.whole_rows.specs.Shorts.{FitsShort}
use Rattle.whole_rows.specs.StartRows.{cells_from, IsStartRow}

-- row i of rows of so many numbers
abbrev pub row_at : ℕ → List ℤ → ℕ → ℕ → ℤ
row_at size numbers i = from_place numbers (i * size)

-- each number is a part that fits
abbrev pub AllPartsFit : List ℤ → Type 0
AllPartsFit numbers = (k : ℕ) → PartFits (get_or numbers k (pos 0))

-- each number of a row is a part that fits
abbrev pub RowFits : ℕ → (ℕ → ℤ) → Type 0
RowFits size row = (p : ℕ) → p < size → PartFits (row p)

-- the first so many rows are rows
abbrev pub AreRows : ℕ → ℕ → List ℤ → Type 0
AreRows rows size numbers = (i : ℕ) → i < rows → IsRow size (row_at size numbers i)

-- two lists agree at all places but the `size` ones from `own` on
abbrev pub AgreeOutside : ℕ → ℕ → List ℤ → List ℤ → Type 0
AgreeOutside own size new old =
    (k : ℕ) → (k < own) ⊎ (own + size ≤ k) → get_or new k (pos 0) ≡ get_or old k (pos 0)

-- the number n, where all these steps fit, and none where one does not
abbrev pub IsWhereFit : List Step → ℤ → Option ℤ → Type 0
IsWhereFit steps n o =
    MatchOption o (¬ (All StepFits steps)) (λ x. (x ≡ n) × PartFits x × All StepFits steps)

-- the steps at a place of the row at `own`
abbrev pub place_steps_at : List ℤ → ℕ → ℕ → ℕ → ℤ → ℤ → ℕ → List Step
place_steps_at numbers own first column u v place =
    place_steps (from_place numbers own) (from_place numbers first) column u v place

-- its number there before it is divided
abbrev pub place_number_at : List ℤ → ℕ → ℕ → ℕ → ℤ → ℤ → ℕ → ℤ
place_number_at numbers own first column u v place =
    place_number (from_place numbers own) (from_place numbers first) column u v place

-- that number, where its steps fit
abbrev pub IsPlaceNumber : List ℤ → ℕ → ℕ → ℕ → ℤ → ℤ → ℕ → Option ℤ → Type 0
IsPlaceNumber numbers own first column u v place o =
    IsWhereFit (place_steps_at numbers own first column u v place)
    (place_number_at numbers own first column u v place) o

-- that number, and the steps there fit with any factors of 64 bits
abbrev pub IsShortNumber : List ℤ → ℕ → ℕ → ℕ → ℤ → ℤ → ℕ → Option ℤ → Type 0
IsShortNumber numbers own first column u v place o =
    IfSome o (λ x. (x ≡ place_number_at numbers own first column u v place) × PartFits x
    × FitsShort (from_place numbers own) (from_place numbers first) column place)

-- all steps of the row at `own`, with the factors u and v
abbrev pub steps_at : List ℤ → ℕ → ℕ → ℕ → ℤ → ℤ → ℕ → List Step
steps_at numbers own first column u v size =
    steps_to (from_place numbers own) (from_place numbers first) column u v size

-- new has the row's numbers at `own`, before they are divided
abbrev pub IsUndividedRow : List ℤ → ℕ → ℕ → ℕ → ℤ → ℤ → ℕ → List ℤ → Type 0
IsUndividedRow numbers own first column u v size new =
    (p : ℕ) → p < size
    → (from_place new own p ≡ place_number_at numbers own first column u v p)
    × PartFits (from_place new own p)

-- new has them divided by d
abbrev pub IsDividedRow : ℕ → List ℤ → ℕ → ℕ → ℕ → ℤ → ℤ → ℕ → List ℤ → Type 0
IsDividedRow d numbers own first column u v size new =
    (p : ℕ) → p < size
    → (from_place new own p *ℤ pos d ≡ place_number_at numbers own first column u v p)
    × PartFits (from_place new own p)

-- the steps of the row at `own`
abbrev pub row_steps_at : List ℤ → ℕ → ℕ → ℕ → ℕ → List Step
row_steps_at numbers own first column size =
    row_steps size (from_place numbers own) (from_place numbers first) column

-- new has at `own` what the pivot makes of the row there
abbrev pub IsPivotedRowAt : List ℤ → ℕ → ℕ → ℕ → ℕ → List ℤ → Type 0
IsPivotedRowAt numbers own first column size new =
    IsPivotedRow size (from_place numbers own) (from_place numbers first) column
    (from_place new own)

-- the steps of row i by the pivot on a row: none where it is that row
abbrev pub steps_of_row : List ℤ → ℕ → ℕ → ℕ → ℕ → List Step
steps_of_row numbers size row column i =
    cond (eqb i row) [] (row_steps size (row_at size numbers i) (row_at size numbers row) column)

-- new has as row i what the pivot on a row makes of it
abbrev pub IsPivotedAt : List ℤ → ℕ → ℕ → ℕ → List ℤ → ℕ → Type 0
IsPivotedAt numbers size row column new i =
    IsPivotedRow size (row_at size numbers i) (row_at size numbers row) column (row_at size new i)

-- new has as that row what the pivot makes of it
abbrev pub IsPivotAt : List ℤ → ℕ → ℕ → ℕ → List ℤ → Type 0
IsPivotAt numbers size row column new =
    IsPivotRow size (row_at size numbers row) column (row_at size new row)

-- the steps of the first rows by the pivot on a row
abbrev pub steps_of_rows : List ℤ → ℕ → ℕ → ℕ → ℕ → List Step
steps_of_rows numbers size row column rows = pivot_steps size (row_at size numbers) row column rows

-- new has as the other rows what the pivot makes of them
abbrev pub AreOthersPivoted : List ℤ → ℕ → ℕ → ℕ → ℕ → List ℤ → Type 0
AreOthersPivoted numbers size row column rows new =
    (i : ℕ) → i < rows → i ≢ row → IsPivotedAt numbers size row column new i

-- the numbers of so many places are the same
abbrev pub AreSame : ℕ → (ℕ → ℤ) → (ℕ → ℤ) → Type 0
AreSame size new old = (p : ℕ) → p < size → new p ≡ old p

-- the numbers of so many places times d are those of old
abbrev pub IsDivided : ℕ → ℤ → (ℕ → ℤ) → (ℕ → ℤ) → Type 0
IsDivided size d new old = (p : ℕ) → p < size → new p *ℤ d ≡ old p

-- the steps of a row fit with any factors of 64 bits
abbrev pub RowFitsShort : List ℤ → ℕ → ℕ → ℕ → ℕ → Type 0
RowFitsShort numbers own first column size =
    (p : ℕ) → p < size → FitsShort (from_place numbers own) (from_place numbers first) column p

-- new has at `to` the row that stands for so many cells
abbrev pub IsStartRowAt : List ℚ → ℕ → ℕ → List ℤ → ℕ → Type 0
IsStartRowAt cells from count new to = IsStartRow count (cells_from cells from) (from_place new to)

-- new has at the places of each row the row that stands for its cells
abbrev pub AreStartRows : List ℚ → ℕ → ℕ → List ℤ → Type 0
AreStartRows cells rows count new =
    (i : ℕ) → i < rows → IsStartRowAt cells (i * count) count new (i * (count + 1))
