-- An optimum has both plans, or a first step that does not fit.
use Rattle.std.proofs.Common.{ℕ, List, Ok, refl}
use Rattle.std.proofs.lemmas.List.FromFn.{length-map-range_with_len}
use Rattle.answers.specs.Answered.{IsAnswered}
use Rattle.answers.specs.Answers.{◌>>=◌, ◌>>◌, only, refused_by, such_that}
use Rattle.answers.proofs.AnsweredLemmas.{answered, bind-answered, only-answered, refused_by-answered}
use Rattle.rational.specs.Rational.{ℚ}
use Rattle.rational.specs.Sum.{entry_at}
use Rattle.frac128.specs.FirstUnfit.{all_steps_fit}
use Rattle.frac128.specs.Steps.{Step}
use Rattle.frac128.proofs.FirstUnfitLemmas.{all_steps_fit-answered}
use Rattle.sequence_forms.specs.Sides.{Side, sequences, IsOrderedSide}
use Rattle.sequence_data.specs.Data.{side_of}
use Rattle.zero_sum_lp.specs.AnsweredLaws.{PlansAreAnswered}
use Rattle.zero_sum_lp.specs.declared.stop.PlanStop.TheVariants.{Range}
use Rattle.zero_sum_lp.specs.Parts.{first_raw, second_raw}
use Rattle.zero_sum_lp.specs.PlanSteps.{raising_steps, trimming_steps}
use Rattle.zero_sum_lp.specs.PlanStops.{IsRaisedPlan, IsTrimmedPlan, plan_in, raised_in, trimmed_in}
use Rattle.zero_sum_lp.proofs.ExactPlanLemmas.{is_raised, is_trimmed, raised_as, raised_plan, trimmed_as, trimmed_plan}
use Rattle.zero_sum_lp.proofs.PlanStageLemmas.{weights_of, weights_there}

-- a plan that is there
plan_in-answered : (is_plan : List ℚ → Type 0) (steps : List ℚ → List Step) (plan : List ℚ) → is_plan plan → IsAnswered (plan_in is_plan steps)
plan_in-answered is_plan steps plan is =
    bind-answered (such_that is_plan) (λ made. all_steps_fit (steps made) >> only made) (answered (such_that is_plan) (Ok plan) is)
    (λ made _. bind-answered (all_steps_fit (steps made)) (λ _. only made) (all_steps_fit-answered (steps made)) (λ _ _. only-answered made))

module _ (d : Side) (o : IsOrderedSide d) (x : ℕ → ℚ) where
  -- the raised plan
  raised_in-answered : IsAnswered (raised_in d x)
  raised_in-answered =
      let z = raised_plan d x in
      let plan = weights_of d z in
      plan_in-answered (IsRaisedPlan d x) (λ made. raising_steps d x (entry_at made)) plan (length-map-range_with_len z 0 (sequences d), raised_as d o x x z (entry_at plan) (λ q l. refl) (weights_there d z) (is_raised d o x))

  -- and the trimmed one
  trimmed_in-answered : IsAnswered (trimmed_in d x)
  trimmed_in-answered =
      let z = trimmed_plan d x in
      let plan = weights_of d z in
      plan_in-answered (IsTrimmedPlan d x) (λ made. trimming_steps d (entry_at made)) plan (length-map-range_with_len z 0 (sequences d), trimmed_as d o x x z (entry_at plan) (λ q l. refl) (weights_there d z) (is_trimmed d o x))

pub plans_answered : PlansAreAnswered
plans_answered o h g =
    let second = refused_by (Range 1) (trimmed_in (side_of o.second) (second_raw o)) in
    bind-answered (refused_by (Range 0) (raised_in (side_of o.first) (first_raw o))) (λ one. second >>= λ two. only (record { one = one; two = two }))
    (refused_by-answered (Range 0) _ (raised_in-answered (side_of o.first) h.ordered (first_raw o)))
    (λ one _. bind-answered second (λ two. only (record { one = one; two = two })) (refused_by-answered (Range 1) _ (trimmed_in-answered (side_of o.second) g.ordered (second_raw o))) (λ two _. only-answered (record { one = one; two = two })))
