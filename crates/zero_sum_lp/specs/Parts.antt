-- What contracts see of a program and of its optimum.
use Rattle.std.specs.Prelude.{ℕ, ◌+◌, ◌<◌, ◌≤◌, ◌≡◌, slice_index_or}
use Rattle.rational.specs.Rational.{ℚ}
use Rattle.game_core.specs.Limits.{most_rows}
use Rattle.sequence_data.specs.Data.{SideData, side_of, IsSideData}
use Rattle.zero_sum_lp.specs.Programs.{constraints, columns_of, IsProgramOf, price_one, price_two, raw_one, raw_two}
use Rattle.lex_tableau.specs.Rows.{WholeTableau, IsTableau, tableau}
use Rattle.zero_sum_lp.specs.ExactPaths.{linear_program, EndsPath}

-- both players' sides, and a tableau: of a program the start, and of an optimum the end of the path
pub record Program : Type 0 where
  pub first : SideData
  pub second : SideData
  pub tableau : WholeTableau

-- ---- what stands in the tableau
-- the prices of the first player
abbrev pub first_prices : Program → ℕ → ℚ
first_prices o = price_one (side_of o.first) (side_of o.second) (tableau o.tableau)

-- the prices of the second player
abbrev pub second_prices : Program → ℕ → ℚ
second_prices o = price_two (side_of o.first) (side_of o.second) (tableau o.tableau)

-- the raw weights of the first player
abbrev pub first_raw : Program → ℕ → ℚ
first_raw o = raw_one (side_of o.first) (side_of o.second) (tableau o.tableau)

-- the raw weights of the second player
abbrev pub second_raw : Program → ℕ → ℚ
second_raw o = raw_two (side_of o.first) (side_of o.second) (tableau o.tableau)

-- ---- programs and optima
-- a tableau is the start of the program of these sides, for some gains
pub record IsStartFor (first second : SideData) (n : WholeTableau) : Type 0 where
  pub gain : ℕ → ℕ → ℚ
  pub basics : (i : ℕ) → i < n.rated → slice_index_or n.starts i 0 ≡ slice_index_or n.basics i 0
  pub program : IsProgramOf (side_of first) (side_of second) gain (linear_program n)
  pub valid : IsTableau n

-- a program: both players' sides, and the start
pub record IsProgram (p : Program) : Type 0 where
  pub first : IsSideData p.first
  pub second : IsSideData p.second
  pub start : IsStartFor p.first p.second p.tableau

-- the optimum of a program: the path leads there from its start
pub record IsOptimumOf (p o : Program) : Type 0 where
  pub first : o.first ≡ p.first
  pub second : o.second ≡ p.second
  pub path : EndsPath p.tableau o.tableau

-- the constraints' number, which is the objective row's; with that of columns it is within the
-- limit
pub record HasShape (first second : SideData) (objective : ℕ) : Type 0 where
  pub rows : objective ≡ constraints (side_of first) (side_of second)
  pub few : objective + columns_of (side_of first) (side_of second) ≤ most_rows

-- an optimum: that of some program
pub record IsOptimum (o : Program) : Type 0 where
  pub first : IsSideData o.first
  pub second : IsSideData o.second
  pub start : WholeTableau
  pub begins : IsStartFor o.first o.second start
  pub path : EndsPath start o.tableau
