-- Systems of slacks whose cells stand in a list, and the shifted payoffs that are their cells.
use Rattle.std.specs.Prelude.{ℕ, ◌+◌, ◌*◌, ◌^◌, ◌<◌, ◌≤◌, ◌⊎◌, List, map}
use Rattle.std.specs.List.{range_with_len}
use Rattle.answers.specs.Answers.{Answer, ◌>>=◌, only}
use Rattle.rational.specs.Rational.{ℚ, ◌+ℚ◌, one_ℚ}
use Rattle.rational.specs.Sum.{entry_at}
use Rattle.linear_systems.specs.Tableau.{Tableau}
use Rattle.game_theory.specs.Profiles.{Game, profile_count}
use Rattle.extreme_equilibria.specs.Bimatrix.{shift_of}
use Rattle.reply_polytope.specs.Shifts.{shift_in}
use Rattle.reply_polytope.specs.declared.stop.PolyStop.{PolyStop}
use Rattle.reply_polytope.specs.declared.systems.Shape.{Shape}

-- the number of row i and column j in a list, where rows and columns stand so far apart
abbrev pub cell_in : List ℚ → ℕ → ℕ → ℕ → ℕ → ℚ
cell_in numbers row_stride column_stride i j =
    entry_at numbers (i * row_stride + j * column_stride)

-- the system of a shape: variables from first ones on, cells from the list, right sides 1
abbrev pub slack_system : List ℚ → Shape → Tableau
slack_system numbers s = record {
  rows = s.rows;
  width = s.width;
  basic = λ i. s.first_basic + i;
  nonbasic = λ j. s.first_nonbasic + j;
  cell = cell_in numbers s.row_stride s.column_stride;
  right = λ i. one_ℚ;
}

-- each cell is among so many numbers, and no variable stands twice; all numbers are small
pub record IsReadable (count : ℕ) (s : Shape) : Type 0 where
  pub inside : (i j : ℕ) → i < s.rows → j < s.width
      → i * s.row_stride + j * s.column_stride < count
  pub apart : (s.first_basic + s.rows ≤ s.first_nonbasic)
      ⊎ (s.first_nonbasic + s.width ≤ s.first_basic)
  pub few : count < 2 ^ 32
  pub few_rows : s.first_basic + s.rows < 2 ^ 16
  pub few_columns : s.first_nonbasic + s.width < 2 ^ 16

-- the payoffs of player i, profile by profile, each with 1 less the least of them added
abbrev pub shifted_payoffs_in : Game → ℕ → Answer PolyStop (List ℚ)
shifted_payoffs_in g i =
    shift_in g i
    >>= (λ least. only
    (map (λ k. g.pays i k +ℚ shift_of least) (range_with_len 0 (profile_count g.strategies))))
