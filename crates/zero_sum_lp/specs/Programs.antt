-- The linear program of two players' realisation plans, and what is read at its optimum. Source:
-- Koller, Megiddo and von Stengel 1996.
use Rattle.std.specs.Prelude.{ℕ, suc, ◌+◌, ◌-◌, ◌<◌, ◌≡◌, nat_lt, if◌then◌else◌}
use Rattle.rational.specs.Rational.{ℚ, neg_ℚ, zero_ℚ}
use Rattle.linear_systems.specs.Tableau.{Tableau}
use Rattle.linear_systems.specs.Rows.{basic_solution, coefficient, Alike}
use Rattle.sequence_forms.specs.Sides.{Side, sequences}
use Rattle.sequence_forms.specs.Matrices.{set_row, right_side}
use Rattle.sequence_data.specs.Sizes.{program_rows, program_columns, sizes_of}
use Rattle.zero_sum_lp.specs.Paths.{LinearProgram}

-- the constraints: the rows of the first player's plans, and a row for each sequence
-- of the second
abbrev pub constraints : Side → Side → ℕ
constraints rows columns = program_rows (sizes_of rows columns)

-- the columns: one for each sequence of the first player, one for the whole game, and one for each
-- set of the second player
abbrev pub columns_of : Side → Side → ℕ
columns_of rows columns = program_columns (sizes_of rows columns)

-- row i of the first player's plans: E in the columns of x
abbrev pub plan_cell : Side → ℕ → ℕ → ℚ
plan_cell rows i j = if nat_lt j (sequences rows) then set_row rows i j else zero_ℚ

-- the row of the second player's sequence q: the gains with the sign changed in the columns of x,
-- and F transposed in those of Q
abbrev pub reply_cell : Side → Side → (ℕ → ℕ → ℚ) → ℕ → ℕ → ℚ
reply_cell rows columns gain q j =
    if nat_lt j (sequences rows) then neg_ℚ (gain j q) else set_row columns (j - sequences rows) q

-- the objective row: -1 at Q 0
abbrev pub objective_cell : Side → ℕ → ℚ
objective_cell rows j =
    if nat_lt j (sequences rows) then zero_ℚ else neg_ℚ (right_side (j - sequences rows))

-- The start for: make Q 0 greatest, where E x <= e, F' Q - A' x <= 0, and x and Q are not negative.
-- E and F are the rows of the two players' plans, e their right sides, and A the gains; a prime is
-- the transpose. The variables are numbered from 1: the slacks of the constraints, then x, then Q,
-- and last the objective.
abbrev pub program_of : Side → Side → (ℕ → ℕ → ℚ) → Tableau
program_of rows columns gain =
    record {
      rows = suc (constraints rows columns);
      width = columns_of rows columns;
      basic = λ i.
          if nat_lt i (constraints rows columns) then suc i
          else suc (constraints rows columns + columns_of rows columns);
      nonbasic = λ j. suc (constraints rows columns + j);
      cell = λ i j.
          if nat_lt i (suc rows.sets) then plan_cell rows i j
          else if nat_lt i (constraints rows columns)
          then reply_cell rows columns gain (i - suc rows.sets) j
          else objective_cell rows j;
      right = λ i. if nat_lt i (suc rows.sets) then right_side i else zero_ℚ;
    }

-- a linear program whose start is this one, within its bounds
pub record IsProgramOf (rows columns : Side) (gain : ℕ → ℕ → ℚ) (g : LinearProgram) : Type 0 where
  pub rated : g.rated ≡ constraints rows columns
  pub start : Alike (program_of rows columns gain) g.start
  pub bound : g.start.rows + g.start.width < g.bound

-- the prices of the first player: the objective row's entries at the slacks of the first player's
-- rows
abbrev pub price_one : Side → Side → Tableau → ℕ → ℚ
price_one rows columns t k = coefficient t (constraints rows columns) (suc k)

-- the raw weights of the second player: the objective row's entries at the other slacks
abbrev pub raw_two : Side → Side → Tableau → ℕ → ℚ
raw_two rows columns t q = coefficient t (constraints rows columns) (suc (suc rows.sets + q))

-- the prices of the second player: the values of Q
abbrev pub price_two : Side → Side → Tableau → ℕ → ℚ
price_two rows columns t k =
    basic_solution t (suc (constraints rows columns + (sequences rows + k)))

-- the raw weights of the first player: the values of x
abbrev pub raw_one : Side → Side → Tableau → ℕ → ℚ
raw_one rows columns t q = basic_solution t (suc (constraints rows columns + q))
