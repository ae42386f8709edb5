-- Counts of faults, of selections and of ends. A count stands still at 2^64 - 1.
use Rattle.std.specs.Prelude.{ℕ, ◌≡◌, ◌⊎◌, ◌-◌, ◌^◌, ◌<◌, ◌≤◌, ◌+◌, min, OnOk, OnErr}
use Rattle.std.specs.Prelude.{Result}

-- the count rose, or stands at its last value
abbrev pub Rose : ℕ → ℕ → Type 0
Rose before now = (before < now) ⊎ (now ≡ 2 ^ 64 - 1)

-- a count of so many more
abbrev pub count_of_more : ℕ → ℕ → ℕ
count_of_more n more = min (n + more) (2 ^ 64 - 1)

-- a count of one more
abbrev pub next_count : ℕ → ℕ
next_count n = count_of_more n 1

-- what a call that may fail does to its count: an Ok leaves it as it was, and a refusal makes it
-- one more
pub record Counts {T E : Type 0} (before now : ℕ) (result : Result T E) : Type 0 where
  pub never_falls : before ≤ now
  pub same_at_ok : OnOk result (now ≡ before)
  pub next_at_err : OnErr result (now ≡ next_count before)
