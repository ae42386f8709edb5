-- The vertices of a system: its nonzero extreme points, each with the set of its variables that are
-- 0 as a mask of two words with 64 bits (Avis et al. 2010)
use Rattle.std.specs.Prelude.{ℕ, suc, ◌+◌, ◌*◌, ◌-◌, ◌^◌, ◌<◌, ◌≡◌, ◌↔◌, min, List, All, Contains, length, get_or}
use Rattle.std.specs.Int.{bit_at}
use Rattle.rational.specs.Rational.{ℚ, zero_ℚ}
use Rattle.rational.specs.Sum.{entry_at}
use Rattle.linear_systems.specs.Tableau.{Tableau}
use Rattle.linear_systems.specs.Points.{IsExtremePoint, IsNonzeroAt}

-- bit l of the word is set exactly where entry l of n is 0
pub record IsZeroWord (n : ℕ) (x : ℕ → ℚ) (word : ℕ) : Type 0 where
  pub below : word < 2 ^ n
  pub zeros : (l : ℕ) → l < n → (bit_at word l ≡ 1) ↔ (x l ≡ zero_ℚ)

-- a point as contracts see it: the two words of its mask, and its values
pub record MarkedPoint : Type 0 where
  pub low : ℕ
  pub high : ℕ
  pub point : List ℚ

-- Of a solution in which variables are numbered from 1 to n: bit v - 1 of the mask is set exactly
-- where variable v is 0, variables 65 to 128 in the high word, and the values are those of the
-- system's nonbasic variables, in order.
pub record IsMarkOf (n : ℕ) (s : Tableau) (x : ℕ → ℚ) (mark : MarkedPoint) : Type 0 where
  pub low : IsZeroWord (min n 64) (λ l. x (suc l)) mark.low
  pub high : IsZeroWord (n - 64) (λ l. x (suc (64 + l))) mark.high
  pub size : length mark.point ≡ s.width
  pub values : (j : ℕ) → j < s.width → entry_at mark.point j ≡ x (s.nonbasic j)

-- the mask as a number
abbrev pub mask_of : MarkedPoint → ℕ
mask_of mark = mark.low + 2 ^ 64 * mark.high

-- the mark of some nonzero extreme point
pub record IsVertexMark (n : ℕ) (s : Tableau) (mark : MarkedPoint) : Type 0 where
  pub solution : ℕ → ℚ
  pub extreme : IsExtremePoint s solution
  pub nonzero : IsNonzeroAt s solution
  pub marked : IsMarkOf n s solution mark

-- exactly the nonzero extreme points of a system in n variables, each once, ascending by their
-- masks
pub record AreVertices (n : ℕ) (s : Tableau) (list : List MarkedPoint) : Type 0 where
  pub sound : All (IsVertexMark n s) list
  pub complete : (x : ℕ → ℚ) → IsExtremePoint s x → IsNonzeroAt s x
      → (mark : MarkedPoint) × Contains list mark × IsMarkOf n s x mark
  pub ascending : (i j : ℕ) (d : MarkedPoint) → i < j → j < length list
      → mask_of (get_or list i d) < mask_of (get_or list j d)
