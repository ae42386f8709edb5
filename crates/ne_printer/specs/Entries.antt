-- The text of entries, as it grows, and the numbers that are one digit.
use Rattle.std.specs.Prelude.{ℕ, ◌<◌, ◌≡◌, pos, List, [], ◌∷◌, ◌++◌, codes}
use Rattle.std.specs.List.{flat_map}
use Rattle.rational.specs.Rational.{ℚ}
use Rattle.rational.specs.Text.{number_text}

-- an entry after a comma
abbrev pub entry_text : ℚ → List ℕ
entry_text q = 44 ∷ number_text q

-- each entry after a comma
abbrev pub entries_text : List ℚ → List ℕ
entries_text qs = flat_map entry_text qs

-- a line: a name, each number after a comma, and a line feed
abbrev pub numbers_line : List ℕ → List ℚ → List ℕ
numbers_line name qs = name ++ entries_text qs ++ 10 ∷ []

-- what stands before the entries of a line where each is after a comma
abbrev pub line_start : List ℚ → List ℕ
line_start [] = codes "NE,"
line_start (q ∷ qs) = codes "NE"

-- a whole number from 0 to 9
pub record IsOneDigit (q : ℚ) : Type 0 where
  pub digit : ℕ
  pub below_ten : digit < 10
  pub num_is : q.num ≡ pos digit
  pub is_whole : q.den ≡ 1

-- a text begins with another
abbrev pub BeginsWith : List ℕ → List ℕ → Type 0
BeginsWith front text = (rest : List ℕ) × (text ≡ front ++ rest)
