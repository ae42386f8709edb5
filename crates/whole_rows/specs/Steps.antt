-- Steps on whole numbers, each a product or a difference of fractions.
use Rattle.std.specs.Prelude.{ℤ, ◌*ℤ◌, List, [], ◌∷◌}
use Rattle.rational.specs.Rational.{whole}
use Rattle.frac128.specs.Steps.{Step, step_of}
use Rattle.frac128.specs.declared.steps.Op.TheVariants.{Mul, Sub}

-- one number times another
abbrev pub product_step : ℤ → ℤ → Step
product_step a b = step_of Mul (whole a) (whole b)

-- one number less another
abbrev pub difference_step : ℤ → ℤ → Step
difference_step a b = step_of Sub (whole a) (whole b)

-- the steps of a times u, less b times v
abbrev pub combination_steps : ℤ → ℤ → ℤ → ℤ → List Step
combination_steps a u b v =
    product_step a u ∷ product_step b v ∷ difference_step (a *ℤ u) (b *ℤ v) ∷ []
