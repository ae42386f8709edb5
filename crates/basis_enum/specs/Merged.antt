-- Two ascending lists as one
use Rattle.std.specs.Prelude.{ℕ, ◌+◌, ◌<◌, ◌≤◌, ◌≡◌, ◌⊎◌, List, length, get_or}
use Rattle.std.specs.List.{Contains}
use Rattle.std.specs.List.Sorted.{IsStrictlyIncreasing}

-- all has the numbers of both lists, in ascending order
pub record IsMerged (xs ys all : List ℕ) : Type 0 where
  pub ascending : IsStrictlyIncreasing all
  pub size : length all ≡ length xs + length ys
  pub first : (v : ℕ) → Contains xs v → Contains all v
  pub second : (v : ℕ) → Contains ys v → Contains all v
  pub only : (v : ℕ) → Contains all v → Contains xs v ⊎ Contains ys v

-- after i numbers of xs and k of ys a number of xs is next: it is not above the next of ys
pub record TakesFirst (xs ys : List ℕ) (i k : ℕ) : Type 0 where
  pub within : i < length xs
  pub least : k < length ys → get_or xs i 0 ≤ get_or ys k 0
