-- An optimum has at most one answer: both plans, or the first step that does not fit.
use Rattle.std.proofs.Common.{◌≡◌, Ok, subst}
use Rattle.answers.specs.Answers.{◌>>=◌, only, refused_by}
use Rattle.answers.proofs.AnswerLemmas.{bind-single, only-single, refused_by-single}
use Rattle.sequence_data.specs.Data.{side_of}
use Rattle.rational.specs.Sum.{entry_at}
use Rattle.zero_sum_lp.specs.declared.stop.PlanStop.TheVariants.{Range}
use Rattle.zero_sum_lp.specs.Parts.{Program, first_raw, second_raw}
use Rattle.sequence_data.specs.PlanPairs.{PlanPair}
use Rattle.zero_sum_lp.specs.Plans.{IsRaised, IsTrimmed}
use Rattle.zero_sum_lp.specs.PlanStops.{IsRaisedPlan, IsTrimmedPlan, PlansAreSingle, plans_of, raised_in, trimmed_in}
use Rattle.zero_sum_lp.proofs.PlanStageLemmas.{plan_in-value, raised_in-single, trimmed_in-single}

pub plans_single : PlansAreSingle
plans_single o h g =
    let second = refused_by (Range 1) (trimmed_in (side_of o.second) (second_raw o)) in
    bind-single (refused_by (Range 0) (raised_in (side_of o.first) (first_raw o))) (λ one. second >>= λ two. only (record { one = one; two = two }))
    (refused_by-single (Range 0) _ (raised_in-single (side_of o.first) h.ordered (first_raw o)))
    (λ one _. bind-single second (λ two. only (record { one = one; two = two })) (refused_by-single (Range 1) _ (trimmed_in-single (side_of o.second) g.ordered (second_raw o))) (λ two _. only-single (record { one = one; two = two })))

-- the raw weights are raised and trimmed
pub plans_made : (o : Program) (plans : PlanPair) → plans_of o (Ok plans) → IsRaised (side_of o.first) (first_raw o) (entry_at plans.one) × IsTrimmed (side_of o.second) (second_raw o) (entry_at plans.two)
plans_made o plans (one, h, (two, g, e)) =
    (let same : record { one = one; two = two } ≡ plans = cc (e) in
    subst (λ (pair : PlanPair). IsRaised (side_of o.first) (first_raw o) (entry_at pair.one) × IsTrimmed (side_of o.second) (second_raw o) (entry_at pair.two)) same
    ((plan_in-value (IsRaisedPlan (side_of o.first) (first_raw o)) _ one h).1, (plan_in-value (IsTrimmedPlan (side_of o.second) (second_raw o)) _ two g).1))
