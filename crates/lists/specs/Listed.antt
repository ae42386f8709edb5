-- The numbers that pass a test, as a list, and where a number stands in a list.
use Rattle.std.specs.Prelude.{ℕ, ◌<◌, ◌≡◌, ◌≢◌, List, length, slice_index, Option, Some, None, Contains}
use Rattle.std.specs.List.Sorted.{IsStrictlyIncreasing}

-- exactly the numbers that pass, in ascending order
pub record AreListed (passes : ℕ → Type 0) (numbers : List ℕ) : Type 0 where
  pub ascending : IsStrictlyIncreasing numbers
  pub sound : (k : ℕ) → Contains numbers k → passes k
  pub complete : (k : ℕ) → passes k → Contains numbers k

-- an index of a number in a list, and none where the number stands at none
abbrev pub IsIndexOf : List ℕ → ℕ → Option ℕ → Type 0
IsIndexOf numbers k None = (j : ℕ) → j < length numbers → slice_index numbers j ≢ k
IsIndexOf numbers k (Some j) = (j < length numbers) × (slice_index numbers j ≡ k)
