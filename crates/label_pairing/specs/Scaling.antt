-- The steps of scaling a point, which divides each entry by the sum of all
use Rattle.std.specs.Prelude.{ℕ, ◌<◌, List, [], ◌++◌, length, map}
use Rattle.std.specs.List.{range_with_len}
use Rattle.rational.specs.Rational.{ℚ, ◌≤ℚ◌, zero_ℚ}
use Rattle.rational.specs.Sum.{entry_at, sum_to}
use Rattle.frac128.specs.Steps.{sum_steps, step_of, Step}
use Rattle.frac128.specs.declared.steps.Op.TheVariants.{Div}
use Rattle.linear_systems.specs.Points.{IsNonzero}

-- a point without negative entries that is not 0
pub record IsScalable (point : List ℚ) : Type 0 where
  pub not_negative : (i : ℕ) → i < length point → zero_ℚ ≤ℚ entry_at point i
  pub nonzero : IsNonzero (length point) (entry_at point)

-- the entry at a place is divided by the sum of all
abbrev pub division : List ℚ → ℕ → Step
division point i = step_of Div (entry_at point i) (sum_to (length point) (entry_at point))

-- the steps of scaling: the sum, and then each entry divided by it
abbrev pub scale_steps : List ℚ → List Step
scale_steps point =
    sum_steps (length point) (entry_at point) (λ _. [])
    ++ map (division point) (range_with_len 0 (length point))
