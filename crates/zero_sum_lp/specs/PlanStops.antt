-- The plans of an optimum in stages, and why there are none.
use Rattle.std.specs.Prelude.{ℕ, ◌≡◌, List, length}
use Rattle.answers.specs.Answers.{Answer, ◌>>=◌, ◌>>◌, only, such_that, IsSingle, refused_by}
use Rattle.rational.specs.Rational.{ℚ}
use Rattle.frac128.specs.FirstUnfit.{all_steps_fit}
use Rattle.frac128.specs.Steps.{Step}
use Rattle.sequence_forms.specs.Sides.{Side, sequences}
use Rattle.sequence_data.specs.Data.{IsSideData, side_of}
use Rattle.rational.specs.Sum.{entry_at}
use Rattle.zero_sum_lp.specs.declared.stop.PlanStop.{PlanStop}
use Rattle.zero_sum_lp.specs.declared.stop.PlanStop.TheVariants.{Range}
use Rattle.zero_sum_lp.specs.Parts.{Program, first_raw, second_raw}
use Rattle.sequence_data.specs.PlanPairs.{PlanPair}
use Rattle.zero_sum_lp.specs.Plans.{IsRaised, IsTrimmed}
use Rattle.zero_sum_lp.specs.PlanSteps.{raising_steps, trimming_steps}

-- the plan with this property, all of whose steps fit; or the first step that does not
abbrev pub plan_in : (List ℚ → Type 0) → (List ℚ → List Step) → Answer Step (List ℚ)
plan_in is_plan steps = do
  plan ← such_that is_plan
  all_steps_fit (steps plan)
  only plan

-- a weight for each sequence, made of raw weights by raising
abbrev pub IsRaisedPlan : Side → (ℕ → ℚ) → List ℚ → Type 0
IsRaisedPlan d raw plan = (length plan ≡ sequences d) × IsRaised d raw (entry_at plan)

-- the raised plan, or the first step that does not fit
abbrev pub raised_in : Side → (ℕ → ℚ) → Answer Step (List ℚ)
raised_in d raw = plan_in (IsRaisedPlan d raw) (λ plan. raising_steps d raw (entry_at plan))

-- a weight for each sequence, made of raw weights by trimming
abbrev pub IsTrimmedPlan : Side → (ℕ → ℚ) → List ℚ → Type 0
IsTrimmedPlan d raw plan = (length plan ≡ sequences d) × IsTrimmed d raw (entry_at plan)

-- the trimmed plan, or the first step that does not fit
abbrev pub trimmed_in : Side → (ℕ → ℚ) → Answer Step (List ℚ)
trimmed_in d raw = plan_in (IsTrimmedPlan d raw) (λ plan. trimming_steps d (entry_at plan))

-- The plans of an optimum, the first player's raised and the second's trimmed; or the player, 0 or
-- 1, with the first step that does not fit.
abbrev pub plans_of : Program → Answer PlanStop PlanPair
plans_of o = do
  first ← refused_by (Range 0) (raised_in (side_of o.first) (first_raw o))
  second ← refused_by (Range 1) (trimmed_in (side_of o.second) (second_raw o))
  only (record { one = first; two = second })

-- An optimum has at most one answer: both plans, or the first step that does not fit.
abbrev pub PlansAreSingle : Type 0
PlansAreSingle = (o : Program) → IsSideData o.first → IsSideData o.second → IsSingle (plans_of o)
