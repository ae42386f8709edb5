-- Steps on numbers of 64 bits, which always fit.
use Rattle.std.specs.Prelude.{ℕ, ℤ, ◌<◌, ◌^◌, nat_abs, All}
use Rattle.frac128.specs.Steps.{StepFits}
use Rattle.whole_rows.specs.Pivots.{place_steps}

-- a factor of 64 bits
abbrev pub IsShort : ℤ → Type 0
IsShort n = nat_abs n < 2 ^ 63

-- the steps at a place fit with any two factors of 64 bits
abbrev pub FitsShort : (ℕ → ℤ) → (ℕ → ℤ) → ℕ → ℕ → Type 0
FitsShort row b c place =
    (u v : ℤ) → IsShort u → IsShort v → All StepFits (place_steps row b c u v place)
