-- What contracts see of a problem and of its solution.
use Rattle.sequence_data.specs.Sizes.{problem_rows, sizes_of}
use Rattle.std.specs.Prelude.{ℕ, ◌+◌, ◌<◌, ◌≤◌, ◌≡◌, slice_index_or}
use Rattle.rational.specs.Rational.{ℚ}
use Rattle.linear_systems.specs.Tableau.{Tableau}
use Rattle.linear_systems.specs.Rows.{basic_solution, Alike}
use Rattle.game_core.specs.Limits.{most_rows}
use Rattle.game_theory.specs.Lines.{listed}
use Rattle.sequence_forms.specs.Forms.{SequenceForm}
use Rattle.sequence_forms.specs.Prices.{costs}
use Rattle.sequence_forms.specs.Sides.{Side, sequences}
use Rattle.lemke_pivot.specs.ProblemLaws.{CostSumsAreNotNegative}
use Rattle.lemke_pivot.specs.ProblemPaths.{start, w_of, z_of}
use Rattle.lemke_pivot.specs.Problems.{costs_of, matrix, right_sides, size}
use Rattle.lex_tableau.specs.Rows.{WholeTableau, IsTableau, tableau}
use Rattle.sequence_data.specs.Data.{SideData, IsSideData, side_of}
use Rattle.sequence_data.specs.PlanPairs.{PlanPair}

-- both players' sides, and a tableau: of a problem the start, and of a solution the end of the path
pub record Problem : Type 0 where
  pub first : SideData
  pub second : SideData
  pub tableau : WholeTableau

-- how many rows the problem of two sides has
abbrev pub size_for : SideData → SideData → ℕ
size_for first second = problem_rows (sizes_of (side_of first) (side_of second))

-- how many rows a problem has
abbrev pub size_of : Problem → ℕ
size_of p = size_for p.first p.second

-- the start of the problem of two sides with these costs
abbrev pub start_tableau : Side → Side → (ℕ → ℕ → ℚ) → (ℕ → ℕ → ℚ) → Tableau
start_tableau rows columns one two =
    let s = costs_of rows columns one two in start (size s) (matrix s) (right_sides s)

-- ---- what stands in the tableau
-- the values of z: both plans, and then the prices
abbrev pub z_values : Problem → ℕ → ℚ
z_values p i = basic_solution (tableau p.tableau) (z_of (size_of p) i)

-- the first player's plan
abbrev pub plan_one : Problem → ℕ → ℚ
plan_one p q = z_values p q

-- the second player's plan
abbrev pub plan_two : Problem → ℕ → ℚ
plan_two p q = z_values p (sequences (side_of p.first) + q)

-- both players' plans
abbrev pub plans_at : Problem → PlanPair
plans_at p = record {
  one = listed (sequences (side_of p.first)) (plan_one p);
  two = listed (sequences (side_of p.second)) (plan_two p);
}

-- ---- problems
-- a tableau is the start of the problem of these sides, for some costs whose sums are nowhere
-- negative
pub record IsStartFor (first second : SideData) (n : WholeTableau) : Type 0 where
  pub one : ℕ → ℕ → ℚ
  pub two : ℕ → ℕ → ℚ
  pub costs : CostSumsAreNotNegative (costs_of (side_of first) (side_of second) one two)
  pub begins : Alike (start_tableau (side_of first) (side_of second) one two) (tableau n)
  pub starts : (i : ℕ) → i < size_for first second
      → slice_index_or n.starts i 0 ≡ w_of i
  pub rated : n.rated ≡ size_for first second
  pub valid : IsTableau n

-- a problem: both players' sides, and the start; its rows are within the limit
pub record IsProblem (p : Problem) : Type 0 where
  pub first : IsSideData p.first
  pub second : IsSideData p.second
  pub few : size_of p ≤ most_rows
  pub start : IsStartFor p.first p.second p.tableau

-- a problem is that of a sequence form with these greatest payoffs
pub record IsProblemOfForm (f : SequenceForm) (greatest_one greatest_two : ℚ) (p : Problem)
    : Type 0 where
  pub rows : f.rows ≡ side_of p.first
  pub columns : f.columns ≡ side_of p.second
  pub begins :
      Alike (start_tableau f.rows f.columns (costs f 0 greatest_one) (costs f 1 greatest_two))
      (tableau p.tableau)
