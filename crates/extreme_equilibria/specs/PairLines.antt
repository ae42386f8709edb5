-- The lines of the pairs of vertices that together have all labels.
use Rattle.std.specs.Prelude.{ℕ, ◌-◌, ◌^◌, ◌≡◌, min, List, ◌++◌, All, Contains, length, bit_or}
use Rattle.rational.specs.Rational.{ℚ}
use Rattle.rational.specs.Sum.{entry_at}
use Rattle.game_theory.specs.Lines.{listed, AreInOrder}
use Rattle.linear_systems.specs.Vertices.{MarkedPoint}
use Rattle.extreme_equilibria.specs.Polytopes.{scaled}

-- the entries divided by their sum
abbrev pub scaled_point : List ℚ → List ℚ
scaled_point point = listed (length point) (scaled (length point) (entry_at point))

-- the low word of the mask of n labels
abbrev pub low_labels : ℕ → ℕ
low_labels n = 2 ^ min n 64 - 1

-- the high word of the mask of n labels
abbrev pub high_labels : ℕ → ℕ
high_labels n = 2 ^ (n - 64) - 1

-- the two points together have all n labels
pub record HaveAllLabels (n : ℕ) (one two : MarkedPoint) : Type 0 where
  pub low : bit_or one.low two.low ≡ low_labels n
  pub high : bit_or one.high two.high ≡ high_labels n

-- the line of a pair: the entries of both points, each divided by the sum of its point
abbrev pub pair_line : MarkedPoint → MarkedPoint → List ℚ
pair_line one two = scaled_point one.point ++ scaled_point two.point

-- the line of a pair that together has all labels
pub record IsPairLine (n : ℕ) (first second : List MarkedPoint) (line : List ℚ) : Type 0 where
  pub one : MarkedPoint
  pub two : MarkedPoint
  pub is_first : Contains first one
  pub is_second : Contains second two
  pub labels : HaveAllLabels n one two
  pub is_line : line ≡ pair_line one two

-- the lines of these pairs, in order
pub record ArePairLines (n : ℕ) (first second : List MarkedPoint) (lines : List (List ℚ))
    : Type 0 where
  pub in_order : AreInOrder lines
  pub sound : All (IsPairLine n first second) lines
  pub complete : (one two : MarkedPoint) → Contains first one → Contains second two
      → HaveAllLabels n one two → Contains lines (pair_line one two)
