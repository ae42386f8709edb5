-- The rows of a system of fractions as whole numbers, and the steps by which they become so
use Rattle.std.specs.Prelude.{ℕ, ℤ, pos, zero, suc, ◌+◌, ◌*◌, ◌/◌, ◌<◌, ◌≡◌, List, ◌++◌, All, map}
use Rattle.std.specs.List.{range_with_len}
use Rattle.answers.specs.Answers.{Answer}
use Rattle.rational.specs.Gcd.{gcd}
use Rattle.rational.specs.Rational.{ℚ}
use Rattle.rational.specs.Sum.{entry_at}
use Rattle.frac128.specs.Fraction.{PartFits}
use Rattle.whole_rows.specs.Rows.{IsRow, fraction}
use Rattle.frac128.specs.Steps.{Step, StepFits}
use Rattle.frac128.specs.FirstUnfit.{all_fit}
use Rattle.whole_rows.specs.Steps.{product_step}

-- the fractions from a place of a list on
abbrev pub cells_from : List ℚ → ℕ → ℕ → ℚ
cells_from cells first place = entry_at cells (first + place)

-- the least common denominator of the first k cells
abbrev pub common_to : (ℕ → ℚ) → ℕ → ℕ
common_to cells zero = 1
common_to cells (suc k) =
    common_to cells k * ((cells k).den / gcd (common_to cells k) (cells k).den)

-- the common denominator of the cells before a place times what the denominator there adds
abbrev pub denominator_step : (ℕ → ℚ) → ℕ → Step
denominator_step cells place =
    product_step (pos (common_to cells place))
    (pos ((cells place).den / gcd (common_to cells place) (cells place).den))

-- the steps of the least common denominator of the first cells
abbrev pub denominator_steps : (ℕ → ℚ) → ℕ → List Step
denominator_steps cells count = map (denominator_step cells) (range_with_len 0 count)

-- the step of the number at a place of a row with the common denominator b
abbrev pub numerator_step : (ℕ → ℚ) → ℕ → ℕ → Step
numerator_step cells b place = product_step (cells place).num (pos (b / (cells place).den))

-- the steps of the first numbers of a row with the common denominator b
abbrev pub numerator_steps : (ℕ → ℚ) → ℕ → ℕ → List Step
numerator_steps cells b count = map (numerator_step cells b) (range_with_len 0 count)

-- the steps of the numbers over the common denominator
abbrev pub over_steps : ℕ → (ℕ → ℚ) → List Step
over_steps count cells = numerator_steps cells (common_to cells count) count

-- the steps of a row of so many cells
abbrev pub start_row_steps : ℕ → (ℕ → ℚ) → List Step
start_row_steps count cells = denominator_steps cells count ++ over_steps count cells

-- b is the common denominator, and all its steps fit
abbrev pub IsCommonDenominator : ℕ → (ℕ → ℚ) → ℤ → Type 0
IsCommonDenominator count cells b =
    (b ≡ pos (common_to cells count)) × PartFits b × All StepFits (denominator_steps cells count)

-- new is a row that stands for the cells
pub record IsStartRow (count : ℕ) (cells : ℕ → ℚ) (new : ℕ → ℤ) : Type 0 where
  pub is_row : IsRow (count + 1) new
  pub same : (k : ℕ) → k < count → fraction new (k + 1) ≡ cells k

-- the steps of row i of a list, each of whose rows has so many cells
abbrev pub start_steps : ℕ → List ℚ → ℕ → List Step
start_steps count cells i = start_row_steps count (cells_from cells (i * count))

-- the steps of all rows fit; or the first row with one that does not, and that step
abbrev pub start_rows_fit : ℕ → ℕ → List ℚ → Answer (ℕ × Step) (Unit {0})
start_rows_fit rows count cells = all_fit (start_steps count cells) (range_with_len 0 rows)
