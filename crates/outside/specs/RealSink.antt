-- What contracts see of a sink over a writer.
use Rattle.std.specs.Prelude.{ℕ, Bool, List, Option}

-- the bytes that the writer holds, where they are known, whether the last call was a flush that
-- answered Ok, and how many calls have failed
pub record WriterState : Type 0 where
  pub contents : Option (List ℕ)
  pub flushed : Bool
  pub faults : ℕ
