-- What contracts inside this crate say of lists of weights.
use Rattle.std.specs.Prelude.{ℕ, ◌+◌, ◌<◌, ◌≡◌, List, length}
use Rattle.rational.specs.Extremes.{IsLesser}
use Rattle.rational.specs.Rational.{ℚ, ◌-ℚ◌}
use Rattle.rational.specs.Sum.{sum_to, entry_at}
use Rattle.frac128.specs.Steps.{Step, IsFirstUnfit}
use Rattle.zero_sum_lp.specs.PlanSteps.{rest_steps}

-- the weights of the actions of a set with this first sequence
abbrev pub weights_from : List ℚ → ℕ → ℕ → ℚ
weights_from weights first a = entry_at weights (first + a)

-- n actions in order each got the lesser of their raw weight x and what the ones before left of w
abbrev pub AreShares : ℚ → (ℕ → ℚ) → (ℕ → ℚ) → ℕ → Type 0
AreShares w x z n = (a : ℕ) → a < n → IsLesser (x a) (w -ℚ sum_to a z) (z a)

-- the first step that does not fit where n actions get their shares of w
abbrev pub IsUnfitShare : ℚ → (ℕ → ℚ) → ℕ → Step → Type 0
IsUnfitShare w x n e = (z : ℕ → ℚ) → AreShares w x z n → IsFirstUnfit (rest_steps w z n) e

-- the first n weights of a list
pub record AreWeights (n : ℕ) (x : ℕ → ℚ) (weights : List ℚ) : Type 0 where
  pub count : length weights ≡ n
  pub same : (q : ℕ) → q < n → entry_at weights q ≡ x q
