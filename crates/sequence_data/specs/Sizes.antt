-- The sizes of a sequence form, of its linear program and of its complementarity problem. Source:
-- Koller, Megiddo and von Stengel 1996.
use Rattle.std.specs.Prelude.{ℕ, suc, ◌+◌, ◌≤◌, ◌^◌, length}
use Rattle.sequence_forms.specs.Sides.{Side, sequences}
use Rattle.sequence_data.specs.Data.{FormData, SideData, side_of}
use Rattle.sequence_data.specs.declared.sizes.Counts.{Counts}

-- the sizes of two sides
abbrev pub sizes_of : Side → Side → Counts
sizes_of rows columns =
    record {
      sequences_one = sequences rows;
      sequences_two = sequences columns;
      sets_one = rows.sets;
      sets_two = columns.sets;
    }

-- those of two sides as they are stored
abbrev pub stored_sizes : SideData → SideData → Counts
stored_sizes first second =
    record {
      sequences_one = first.sequences;
      sequences_two = second.sequences;
      sets_one = length first.sets;
      sets_two = length second.sets;
    }

-- the sizes of a form
abbrev pub form_sizes : FormData → Counts
form_sizes f = sizes_of (side_of f.first) (side_of f.second)

-- each number is at most 2^60
pub record AreFew (c : Counts) : Type 0 where
  pub sequences_one : c.sequences_one ≤ 2 ^ 60
  pub sequences_two : c.sequences_two ≤ 2 ^ 60
  pub sets_one : c.sets_one ≤ 2 ^ 60
  pub sets_two : c.sets_two ≤ 2 ^ 60

-- ---- the linear program
-- its constraints: the rows of the first player's plans, which are one more than there are sets,
-- and a row for each sequence of the second player
abbrev pub program_rows : Counts → ℕ
program_rows c = suc c.sets_one + c.sequences_two

-- its columns: one for each sequence of the first player and for each row of the second player's
-- plans
abbrev pub program_columns : Counts → ℕ
program_columns c = c.sequences_one + suc c.sets_two

-- both together
abbrev pub program_size : Counts → ℕ
program_size c = program_rows c + program_columns c

-- ---- the complementarity problem
-- a row for each of X and Y sequences, and two for each of the h and k rows of both players' plans
abbrev pub block_rows : (X Y h k : ℕ) → ℕ
block_rows X Y h k = X + (Y + (h + (h + (k + k))))

-- its rows
abbrev pub problem_rows : Counts → ℕ
problem_rows c = block_rows c.sequences_one c.sequences_two (suc c.sets_one) (suc c.sets_two)
