-- The pivots to the next level, out of those that are found
use Rattle.std.specs.Prelude.{ℕ, ◌+◌, ◌*◌, ◌^◌, ◌<◌, ◌≤◌, ◌≡◌, List, map}
use Rattle.std.specs.List.{Contains}
use Rattle.std.specs.List.Sorted.{IsStrictlyIncreasing}
use Rattle.lex_tableau.specs.Rows.{WholeTableau}
use Rattle.basis_enum.specs.Levels.{Pivot}
use Rattle.basis_enum.specs.declared.found_pivots.FoundPivot.{FoundPivot}
use Rattle.basis_enum.specs.Found.{AreFoundIn}

-- the basis to which a pivot leads
abbrev pub target_of : FoundPivot → ℕ
target_of p = p.target

-- by the parent's place, and then by the entering variable
abbrev pub order_of : FoundPivot → ℕ
order_of p = p.parent * 2 ^ 32 + p.entering

-- by the basis to which it leads, and then in that order
abbrev pub rank_of : FoundPivot → ℕ
rank_of p = p.target * 2 ^ 64 + order_of p

-- among these is a pivot to the same basis that does not come later
abbrev pub HasAsEarly : List FoundPivot → FoundPivot → Type 0
HasAsEarly next p =
    (q : FoundPivot) × Contains next q × (q.target ≡ p.target) × (order_of q ≤ order_of p)

-- next has one pivot to each target of the found ones, in ascending order of targets, and of those
-- that lead there the first
pub record IsNextOf (found next : List FoundPivot) : Type 0 where
  pub each : (p : FoundPivot) → Contains next p → Contains found p
  pub ascending : IsStrictlyIncreasing (map target_of next)
  pub all : (p : FoundPivot) → Contains found p → HasAsEarly next p

-- places and variables are numbers of 32 bits
abbrev pub AreSmall : List FoundPivot → Type 0
AreSmall found = (p : FoundPivot) → Contains found p → (p.parent < 2 ^ 32) × (p.entering < 2 ^ 32)

-- what a read past the end of a list of found pivots gives
abbrev pub no_found_pivot : FoundPivot
no_found_pivot = record { target = 0; parent = 0; entering = 0; row = 0; column = 0 }

-- next has the first pivot to each new basis, in ascending order, out of all that are found
pub record AreNewPivots (level : List WholeTableau) (known : List ℕ) (next : List FoundPivot)
    : Type 0 where
  pub found : List FoundPivot
  pub all : AreFoundIn level known found
  pub small : AreSmall found
  pub firsts : IsNextOf found next

-- the pivot from its level
abbrev pub pivot_of : FoundPivot → Pivot
pivot_of p = record { parent = p.parent; row = p.row; column = p.column }
