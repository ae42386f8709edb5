-- The input that is read, and how reading it is refused.
use Rattle.std.specs.Prelude.{ℕ, ◌+◌, ◌<◌, ◌≡◌, true, List, length, Option, None, Some}
use Rattle.std.specs.Io.KnownBytes.{Consumes, IsAtEnd}
use Rattle.outside.specs.Counts.{Rose}
use Rattle.outside.specs.Inputs.{InputName, InputsSeen}
use Rattle.refusals.specs.declared.refusal.Refusal.{Refusal}
use Rattle.refusals.specs.declared.refusal.Refusal.TheVariants as refusal

-- the most bytes that an input may have
abbrev pub most_bytes : ℕ
most_bytes = 16777216

-- the bytes are those of an input, where these are known
abbrev pub AreBytesOf : Option (List ℕ) → List ℕ → Type 0
AreBytesOf None bytes = Unit {0}
AreBytesOf (Some known) bytes = known ≡ bytes

-- the input was read to its end: that end was met, and nothing is left where bytes are told
pub record IsReadToEnd (name : InputName) (after : InputsSeen) : Type 0 where
  pub selected : after.selected ≡ Some name
  pub end_met : after.at_end ≡ true
  pub at_end : IsAtEnd after.left

-- the input is selected; where bytes are told, one more than an input may have was read, and no
-- further one
pub record IsReadTooFar (name : InputName) (before after : InputsSeen) : Type 0 where
  pub selected : after.selected ≡ Some name
  pub taken : List ℕ
  pub count : length taken ≡ most_bytes + 1
  pub are_first : Consumes (before.held name) after.left taken

-- the input could not be opened: the count of such faults rose, the input is the failed one, and
-- none is selected
pub record IsOpenFault (name : InputName) (before after : InputsSeen) : Type 0 where
  pub rose : Rose before.open_faults after.open_faults
  pub failed : after.failed ≡ Some name
  pub none_selected : after.selected ≡ None

-- the input could not be read: the count of such faults rose, the input is the failed one, and none
-- is selected
pub record IsReadFault (name : InputName) (before after : InputsSeen) : Type 0 where
  pub rose : Rose before.read_faults after.read_faults
  pub failed : after.failed ≡ Some name
  pub none_selected : after.selected ≡ None

-- why reading an input to its end is refused
abbrev pub IsInputRefusal : InputName → InputsSeen → InputsSeen → Refusal → Type 0
IsInputRefusal name before after refusal.OpenFault = IsOpenFault name before after
IsInputRefusal name before after refusal.ReadFault = IsReadFault name before after
IsInputRefusal name before after refusal.TooLong = IsReadTooFar name before after
IsInputRefusal name before after refusal.Memory = after.selected ≡ Some name
IsInputRefusal name before after _ = ⊥

-- a count rose only with its own refusal
pub record CountsDetermine (before after : InputsSeen) (refused : Option Refusal) : Type 0 where
  pub opening : before.open_faults < after.open_faults → refused ≡ Some refusal.OpenFault
  pub reading : before.read_faults < after.read_faults → refused ≡ Some refusal.ReadFault
