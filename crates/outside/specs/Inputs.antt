-- What contracts see of inputs.
use Rattle.std.specs.Prelude.{ℕ, zero, suc, Bool, true, false, List, Option, Some}
use Rattle.outside.specs.Counts.{next_count}

-- the name of an input, as bytes; None is the input without a name
abbrev pub InputName : Type 0
InputName = Option (List ℕ)

-- What can be seen of inputs at one moment. Bytes are seen where they are known.
pub record InputsSeen : Type 0 where
  -- the bytes under each name, and under none
  pub held : InputName → Option (List ℕ)
  -- whether it is known that no input has a name
  pub absent : InputName → Bool
  -- the bytes left of the selected input
  pub left : Option (List ℕ)
  -- the selected input, and the one whose call failed last: nothing where there is none
  pub selected : Option InputName
  pub failed : Option InputName
  -- whether the end of the selected input was met: a read with room answered that nothing is left
  pub at_end : Bool
  -- how many calls of `select` were made
  pub selections : ℕ
  -- in how many selections the end was met
  pub ends : ℕ
  -- how many calls of `select` and of `read` have failed
  pub open_faults : ℕ
  pub read_faults : ℕ

-- whether a read of the selected input met its end: with room, it answered 0
abbrev pub meets_end : Option InputName → ℕ → ℕ → Bool
meets_end (Some name) (suc room) zero = true
meets_end _ _ _ = false

-- the count of met ends, where the end is met now and was or was not before
abbrev pub ends_after : Bool → Bool → ℕ → ℕ
ends_after false true ends = next_count ends
ends_after _ _ ends = ends
