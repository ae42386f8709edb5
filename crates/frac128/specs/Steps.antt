-- when a step on two fractions fits, and the first of several that does not
use Rattle.std.specs.Prelude.{ℕ, pos, ℤ, ◌*ℤ◌, ◌+ℤ◌, ◌-ℤ◌, ◌/◌, ◌≡◌, List, [], ◌∷◌, ◌++◌, All, Result, MatchResult}
use Rattle.std.specs.List.{flat_map, range_with_len}
use Rattle.rational.specs.Gcd.{gcd}
use Rattle.rational.specs.Rational.{ℚ, ◌+ℚ◌, ◌-ℚ◌, ◌*ℚ◌, inv_ℚ}
use Rattle.rational.specs.Sum.{sum_to}
use Rattle.frac128.specs.Fraction.{PartFits, Fits}
use Rattle.frac128.specs.declared.steps.Op.{Op}
use Rattle.frac128.specs.declared.steps.Op.TheVariants.{Add, Sub, Mul, Div}
use Rattle.frac128.specs.declared.steps.Unfit.{Unfit}

-- the numerator of a over the least common denominator of a and b: its own times the denominator
-- of b over the greatest common divisor of both denominators
abbrev pub num_beside : ℚ → ℚ → ℤ
num_beside a b = a.num *ℤ pos (b.den / gcd a.den b.den)

-- a sum fits where both numerators over the least common denominator, their sum, and the
-- denominator of the sum in lowest terms fit; the numerator in lowest terms then fits as well
pub record AddFits (a b : ℚ) : Type 0 where
  pub left : PartFits (num_beside a b)
  pub right : PartFits (num_beside b a)
  pub top : PartFits (num_beside a b +ℤ num_beside b a)
  pub den : PartFits (pos (a +ℚ b).den)

-- a difference fits in the same way
pub record SubFits (a b : ℚ) : Type 0 where
  pub left : PartFits (num_beside a b)
  pub right : PartFits (num_beside b a)
  pub top : PartFits (num_beside a b -ℤ num_beside b a)
  pub den : PartFits (pos (a -ℚ b).den)

-- a product fits where both of its parts in lowest terms do
abbrev pub MulFits : ℚ → ℚ → Type 0
MulFits a b = Fits (a *ℚ b)

-- a quotient by a number that is not zero fits where the product by its inverse does
abbrev pub DivFits : ℚ → ℚ → Type 0
DivFits a b = Fits (a *ℚ inv_ℚ b)

-- a step: an operation on two numbers
abbrev pub Step : Type 0
Step = Unfit

-- the step of this operation on these numbers, whether it fits or not
abbrev pub step_of : Op → ℚ → ℚ → Step
step_of op a b = record { op = op; left = a; right = b }

-- the product of two numbers is added to a sum
abbrev pub added_product_steps : ℚ → ℚ → ℚ → List Step
added_product_steps sum a b = step_of Mul a b ∷ step_of Add sum (a *ℚ b) ∷ []

-- a sum from 0 over the first n numbers in order, each added as soon as its own steps are made
abbrev pub sum_steps : ℕ → (ℕ → ℚ) → (ℕ → List Step) → List Step
sum_steps n v later =
    flat_map (λ k. later k ++ step_of Add (sum_to k v) (v k) ∷ []) (range_with_len 0 n)

-- such an operation on two numbers fits
abbrev pub OperationFits : Op → ℚ → ℚ → Type 0
OperationFits Add a b = AddFits a b
OperationFits Sub a b = SubFits a b
OperationFits Mul a b = MulFits a b
OperationFits Div a b = DivFits a b

-- a step fits
abbrev pub StepFits : Step → Type 0
StepFits s = OperationFits s.op s.left s.right

-- the first of these steps that does not fit
pub record IsFirstUnfit (steps : List Step) (step : Step) : Type 0 where
  pub before : List Step
  pub following : List Step
  pub is_there : steps ≡ before ++ step ∷ following
  pub earlier_fit : All StepFits before
  pub does_not_fit : StepFits step → ⊥

-- what these steps give: a value where all fit, and else the first that does not
abbrev pub StepsGive : List Step → ℚ → Result ℚ Unfit → Type 0
StepsGive steps v result =
    MatchResult result (λ x. (x ≡ v) × All StepFits steps) (IsFirstUnfit steps)
