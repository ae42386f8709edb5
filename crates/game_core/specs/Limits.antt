-- Counts and their limits.
use Rattle.std.specs.Prelude.{ℕ, ◌+◌, ◌<◌, List, length}
use Rattle.answers.specs.Answers.{Answer, ◌>>◌, only, refuse_where}
use Rattle.game_core.specs.declared.too_large.TooLarge.{TooLarge}
use Rattle.game_core.specs.declared.too_large.What.{What}
use Rattle.game_core.specs.declared.too_large.What.TheVariants as what

-- so many of this, which pass the limit
abbrev pub too_large : What → ℕ → ℕ → TooLarge
too_large what limit count = record { what = what; count = count; limit = limit }

-- the first number above the limit, at which counting stops
abbrev pub first_above : What → ℕ → TooLarge
first_above what limit = too_large what limit (limit + 1)

-- refuses a count above its limit, and tells the count
abbrev pub within : What → ℕ → ℕ → Answer TooLarge (Unit {0})
within what limit count = refuse_where (limit < count) (too_large what limit count)

-- refuses a count above its limit, and tells the first number above it
abbrev pub counted_within : What → ℕ → ℕ → Answer TooLarge (Unit {0})
counted_within what limit count = refuse_where (limit < count) (first_above what limit)

-- the most rows of a complementarity problem, and the most rows and columns of a linear program
-- together
abbrev pub most_rows : ℕ
most_rows = 512

-- ---- texts
-- the most bytes that a text may have
abbrev pub most_text : ℕ
most_text = 67108864

-- a text within that limit; counting stops at the first number above it
abbrev pub limited_text : List ℕ → Answer TooLarge (List ℕ)
limited_text text = counted_within what.Text most_text (length text) >> only text
