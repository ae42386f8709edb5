-- The system of a problem, entry by entry.
use Rattle.std.specs.Prelude.{ℕ, ◌≡◌, length}
use Rattle.rational.specs.Rational.{ℚ}
use Rattle.linear_systems.specs.Rows.{Alike}
use Rattle.linear_systems.specs.Tableau.{Tableau}
use Rattle.sequence_forms.specs.Sides.{sequences}
use Rattle.lemke_pivot.specs.Problems.{Costs, costs_of}
use Rattle.lex_tableau.specs.Starts.{LinearSystem, IsSystem, system_of}
use Rattle.sequence_data.specs.Data.{SideData, IsSideData, side_of}
use Rattle.sequence_data.specs.Matrices.{matrix_size, number_at}
use Rattle.lemke_pivot.specs.declared.matrix.SideCosts.{SideCosts}
use Rattle.lemke_pivot.specs.Parts.{size_for, start_tableau}

-- the system of the problem of these sides with these costs
pub record IsSystemFor (first second : SideData) (one two : ℕ → ℕ → ℚ)
    (s : LinearSystem) : Type 0 where
  pub valid : IsSystem s
  pub begins : Alike (start_tableau (side_of first) (side_of second) one two) (system_of s)
  pub rated : s.rated ≡ size_for first second

-- ---- as they are listed
-- how many sequences the first player has
abbrev pub rows_at : SideCosts → ℕ
rows_at c = sequences (side_of c.first.now)

-- how many the second player has
abbrev pub columns_at : SideCosts → ℕ
columns_at c = sequences (side_of c.second.now)

-- how many rows the problem has
abbrev pub size_at : SideCosts → ℕ
size_at c = size_for c.first.now c.second.now

-- both sides are in order, and each player has a cost for each pair of sequences
pub record AreCosts (c : SideCosts) : Type 0 where
  pub first_side : IsSideData c.first.now
  pub second_side : IsSideData c.second.now
  pub one_long : length c.one.now ≡ matrix_size c.first.now c.second.now
  pub two_long : length c.two.now ≡ matrix_size c.first.now c.second.now

-- the costs, listed row by row
abbrev pub costs_at : SideCosts → Costs
costs_at c =
    costs_of (side_of c.first.now) (side_of c.second.now) (number_at c.one.now (columns_at c))
    (number_at c.two.now (columns_at c))

-- the start of the problem with these costs
abbrev pub start_at : SideCosts → Tableau
start_at c =
    start_tableau (side_of c.first.now) (side_of c.second.now) (number_at c.one.now (columns_at c))
    (number_at c.two.now (columns_at c))

-- the system of this problem
abbrev pub IsSystemAt : SideCosts → LinearSystem → Type 0
IsSystemAt c =
    IsSystemFor c.first.now c.second.now (number_at c.one.now (columns_at c))
    (number_at c.two.now (columns_at c))
