-- Realisation plans made of raw weights.
use Rattle.std.specs.Prelude.{ℕ, ◌+◌, ◌<◌, ◌≡◌}
use Rattle.rational.specs.Extremes.{IsLesser}
use Rattle.rational.specs.Rational.{ℚ, ◌+ℚ◌, ◌-ℚ◌, one_ℚ}
use Rattle.rational.specs.Sum.{sum_to}
use Rattle.sequence_forms.specs.Sides.{Side, first}

-- z is the plan made of x where x is too little: at each set, what the weights after its actions
-- lack of the weight before is added to the first action's
pub record IsRaised (d : Side) (x z : ℕ → ℚ) : Type 0 where
  pub empty : z 0 ≡ one_ℚ
  pub first_action : (j : ℕ) → j < d.sets
      → z (first d j)
      ≡ x (first d j) +ℚ (z (d.before j) -ℚ sum_to (d.count j) (λ a. x (first d j + a)))
  pub others : (j a : ℕ) → j < d.sets → 0 < a → a < d.count j
      → z (first d j + a) ≡ x (first d j + a)

-- z is the plan made of x where x is too much: at each set, each action in order gets the lesser of
-- its raw weight and what the actions before it have left of the weight before the set
pub record IsTrimmed (d : Side) (x z : ℕ → ℚ) : Type 0 where
  pub empty : z 0 ≡ one_ℚ
  pub shares : (j a : ℕ) → j < d.sets → a < d.count j
      → IsLesser (x (first d j + a)) (z (d.before j) -ℚ sum_to a (λ b. z (first d j + b)))
      (z (first d j + a))
