-- The system of a program, entry by entry.
use Rattle.std.specs.Prelude.{ℕ, ◌≡◌, List}
use Rattle.rational.specs.Rational.{ℚ}
use Rattle.linear_systems.specs.Rows.{Alike}
use Rattle.linear_systems.specs.Tableau.{Tableau}
use Rattle.zero_sum_lp.specs.Programs.{constraints, program_of, reply_cell}
use Rattle.lex_tableau.specs.Starts.{LinearSystem, system_of, IsSystem}
use Rattle.sequence_data.specs.Data.{SideData, side_of}
use Rattle.sequence_data.specs.Matrices.{number_at}
use Rattle.sequence_forms.specs.Sides.{sequences}

-- gains listed row by row, with an entry for each sequence of the second player in each
abbrev pub listed_gain : SideData → List ℚ → ℕ → ℕ → ℚ
listed_gain second gains = number_at gains (sequences (side_of second))

-- the program of two sides with listed gains
abbrev pub listed_program : SideData → SideData → List ℚ → Tableau
listed_program first second gains =
    program_of (side_of first) (side_of second) (listed_gain second gains)

-- its rows of the second player's sequences
abbrev pub listed_reply : SideData → SideData → List ℚ → ℕ → ℕ → ℚ
listed_reply first second gains =
    reply_cell (side_of first) (side_of second) (listed_gain second gains)

-- the system of the program of these sides with these gains
pub record IsSystemFor (first second : SideData) (gain : ℕ → ℕ → ℚ)
    (s : LinearSystem) : Type 0 where
  pub valid : IsSystem s
  pub program : Alike (program_of (side_of first) (side_of second) gain) (system_of s)
  pub rated : s.rated ≡ constraints (side_of first) (side_of second)
