-- What contracts see of inputs in memory.
use Rattle.std.specs.Prelude.{ℕ, ◌≡◌, Bool, List, [], ◌∷◌, Option, None, Some, drop, unwrap_or, option_and_then, if◌then◌else◌}
use Rattle.std.specs.Str.{bytes_eq}
use Rattle.std.proofs.Common.{ap, ◌∙◌}
use Rattle.std.proofs.Math.Seq.{drop-nil}
use Rattle.outside.specs.Inputs.{InputName}

-- the bytes under no name, the names with their bytes, the numbers of the calls that fail, how many
-- calls there were, the selected and the failed input, how many bytes of the selected one are read,
-- whether its end was met, how many selections were made, in how many of them the end was met, and
-- how many calls of each kind have failed
pub record InputsState : Type 0 where
  pub plain : List ℕ
  pub named : List (List ℕ × List ℕ)
  pub failing : List ℕ
  pub calls : ℕ
  pub selected : Option InputName
  pub failed : Option InputName
  pub position : ℕ
  pub at_end : Bool
  pub selections : ℕ
  pub ends : ℕ
  pub open_faults : ℕ
  pub read_faults : ℕ

-- the bytes of the first pair with a name
abbrev pub first_named : List (List ℕ × List ℕ) → List ℕ → Option (List ℕ)
first_named [] name = None
first_named (p ∷ ps) name = if bytes_eq p.0 name then Some p.1 else first_named ps name

-- the bytes of an input
abbrev pub bytes_held : List ℕ → List (List ℕ × List ℕ) → InputName → Option (List ℕ)
bytes_held plain named None = Some plain
bytes_held plain named (Some name) = first_named named name

-- the bytes of the selected input, and none where none is selected
abbrev pub selected_bytes : InputsState → List ℕ
selected_bytes s = unwrap_or (option_and_then (bytes_held s.plain s.named) s.selected) []

-- the bytes left of the selected input
abbrev pub bytes_left : InputsState → List ℕ
bytes_left s = drop s.position (selected_bytes s)

-- where nothing is selected, nothing is left
pub bytes_left-idle : (s : InputsState) → s.selected ≡ None → bytes_left s ≡ []
bytes_left-idle s idle =
    ap (λ chosen. drop s.position
    (unwrap_or (option_and_then (bytes_held s.plain s.named) chosen) [])) idle
    ∙ drop-nil s.position
