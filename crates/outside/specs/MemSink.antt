-- What contracts see of a sink in memory.
use Rattle.std.specs.Prelude.{ℕ, ◌-◌, Bool, List, length, min}

-- the bytes taken, the most bytes that one write takes, the most bytes in all, whether a flush
-- fails, whether the last call was a flush that answered Ok, and how many calls have failed
pub record SinkState : Type 0 where
  pub taken : List ℕ
  pub most : ℕ
  pub limit : ℕ
  pub flush_fails : Bool
  pub flushed : Bool
  pub faults : ℕ

-- how many bytes of a piece the next write takes
abbrev pub count_taken : SinkState → List ℕ → ℕ
count_taken s piece = min (length piece) (min s.most (s.limit - length s.taken))
