-- What contracts see of inputs over files and standard input.
use Rattle.std.specs.Prelude.{ℕ, Bool, List, Option, is_some, unwrap_or, option_and_then}
use Rattle.outside.specs.Inputs.{InputName}

-- the bytes left of standard input and of the open file, where they are known, the selected and the
-- failed input, whether the end of the selected one was met, how many selections were made, in how
-- many of them the end was met, and how many calls of each kind have failed
pub record OpenState : Type 0 where
  pub standard : Option (List ℕ)
  pub file : Option (Option (List ℕ))
  pub selected : Option InputName
  pub failed : Option InputName
  pub at_end : Bool
  pub selections : ℕ
  pub ends : ℕ
  pub open_faults : ℕ
  pub read_faults : ℕ

-- the bytes left of the open file, or of standard input where no file is open
abbrev pub source_left : OpenState → Option (List ℕ)
source_left s = unwrap_or s.file s.standard

-- whether a selected input has a name
abbrev pub is_named : {Name : Type 0} → Option (Option Name) → Bool
is_named selected = is_some (option_and_then (λ name. name) selected)
