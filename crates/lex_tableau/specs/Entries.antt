-- The entries of a tableau one after another, and variables that are numbered.
use Rattle.std.specs.Prelude.{ℕ, ◌≡◌, ◌+◌, ◌/◌, ◌%◌, ◌<◌, nat_lt, if◌then◌else◌, List, length, get_or}
use Rattle.rational.specs.Rational.{ℚ}
use Rattle.rational.specs.Sum.{entry_at}
use Rattle.linear_systems.specs.Tableau.{Tableau}

-- the entry of row i at place j: its cells, and then its right side
abbrev pub entry_of : Tableau → ℕ → ℕ → ℚ
entry_of t i j = if nat_lt j t.width then t.cell i j else t.right i

-- the first n entries of a tableau, row by row, each of so many
pub record AreEntries (t : Tableau) (size n : ℕ) (cells : List ℚ) : Type 0 where
  pub count : length cells ≡ n
  pub same : (k : ℕ) → k < n → entry_at cells k ≡ entry_of t (k / size) (k % size)

-- so many numbers one after another, from a first one on
pub record AreNumbered (first count : ℕ) (xs : List ℕ) : Type 0 where
  pub length_is : length xs ≡ count
  pub number_is : (k : ℕ) → k < count → get_or xs k 0 ≡ first + k
