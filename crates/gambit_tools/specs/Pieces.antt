-- How reading the selected input piece by piece is refused, for code below `read_input`.
use Rattle.std.specs.Prelude.{ℕ, ◌+◌, ◌≡◌, List, length, Option, None}
use Rattle.std.specs.Io.KnownBytes.{Consumes}
use Rattle.outside.specs.Counts.{Rose}
use Rattle.outside.specs.Inputs.{InputsSeen}
use Rattle.refusals.specs.declared.refusal.Refusal.{Refusal}
use Rattle.refusals.specs.declared.refusal.Refusal.TheVariants as refusal
use Rattle.gambit_tools.specs.Input.{most_bytes}

-- why reading a piece of the selected input is refused
abbrev pub IsPieceRefusal : InputsSeen → InputsSeen → Refusal → Type 0
IsPieceRefusal before after refusal.ReadFault =
    Rose before.read_faults after.read_faults × (after.failed ≡ before.selected)
    × (after.selected ≡ None)
IsPieceRefusal before after refusal.Memory =
    (after.selected ≡ before.selected) × (after.read_faults ≡ before.read_faults)
IsPieceRefusal before after _ = ⊥

-- why reading the selected input to its end is refused, of which these bytes were left: for a piece
-- of it, or for their number
abbrev pub IsReadingRefusal : Option (List ℕ) → InputsSeen → InputsSeen → Refusal → Type 0
IsReadingRefusal left before after refusal.TooLong =
    (after.selected ≡ before.selected) × (after.read_faults ≡ before.read_faults) × (taken : List ℕ)
    × (length taken ≡ most_bytes + 1) × Consumes left after.left taken
IsReadingRefusal left before after r = IsPieceRefusal before after r
