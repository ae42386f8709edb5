-- The steps in which plans are made of raw weights.
use Rattle.std.specs.Prelude.{ℕ, ◌+◌, List, [], ◌∷◌, ◌++◌, map}
use Rattle.std.specs.List.{flat_map, range_with_len}
use Rattle.rational.specs.Rational.{ℚ, ◌-ℚ◌}
use Rattle.rational.specs.Sum.{sum_to}
use Rattle.frac128.specs.Steps.{step_of, Step}
use Rattle.frac128.specs.declared.steps.Op.TheVariants.{Add, Sub}
use Rattle.sequence_forms.specs.Sides.{Side, first}

-- ---- a set
-- the weights of n actions are subtracted from w one by one
abbrev pub rest_steps : ℚ → (ℕ → ℚ) → ℕ → List Step
rest_steps w x n = map (λ a. step_of Sub (w -ℚ sum_to a x) (x a)) (range_with_len 0 n)

-- and the rest is added to the first
abbrev pub raise_steps : ℚ → (ℕ → ℚ) → ℕ → List Step
raise_steps w x n = rest_steps w x n ++ step_of Add (x 0) (w -ℚ sum_to n x) ∷ []

-- ---- a side, set by set, where z is the plan that is made
-- the steps of raising x
abbrev pub raising_steps : Side → (ℕ → ℚ) → (ℕ → ℚ) → List Step
raising_steps d x z =
    flat_map (λ j. raise_steps (z (d.before j)) (λ a. x (first d j + a)) (d.count j))
    (range_with_len 0 d.sets)

-- those of trimming
abbrev pub trimming_steps : Side → (ℕ → ℚ) → List Step
trimming_steps d z =
    flat_map (λ j. rest_steps (z (d.before j)) (λ a. z (first d j + a)) (d.count j))
    (range_with_len 0 d.sets)
