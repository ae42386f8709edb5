-- What contracts see of a sink.
use Rattle.std.specs.Prelude.{ℕ, ◌≡◌, Bool, List, ◌++◌, Option, None, Some}

-- the bytes taken have grown by a piece, where they are known
abbrev pub Takes : Option (List ℕ) → Option (List ℕ) → List ℕ → Type 0
Takes None new piece = new ≡ None
Takes (Some old) new piece = new ≡ Some (old ++ piece)

-- What can be seen of a sink at one moment.
pub record SinkSeen : Type 0 where
  -- the bytes taken so far, where they are known
  pub taken : Option (List ℕ)
  -- whether the last call was a `flush` that answered Ok
  pub flushed : Bool
  -- how many calls have failed
  pub faults : ℕ
