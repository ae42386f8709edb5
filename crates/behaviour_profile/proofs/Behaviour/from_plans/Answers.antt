use Rattle.std.proofs.Common.{refl}
use Rattle.std.proofs.lemmas.Result.{err_from_is_err_and}
use Rattle.sequence_form.proofs.FormLemmas.{tree_form-two}
use Rattle.behaviour_profile.specs.Plans.{both_plans}
use Rattle.behaviour_profile.proofs.PlanStopLemmas.{first_stop, second_stop, both_made}
use Rattle.behaviour_profile.proofs.Behaviour.from_plans.Goals as goal

pub returns-in_err-push_plan : goal.returns-in_err-push_plan
returns-in_err-push_plan c =
    let p = err_from_is_err_and c.from_residual.result c.from_residual.ensures.1 in
    rw (p.1, p.2) (first_stop c.args.tree.now c.args.one.now c.args.two.now c.in_err-push_plan.field-0.0 (c.in_err-push_plan.ensures.steps (both_plans c.args.one.now c.args.two.now) refl))

pub returns-in_err-push_plan-2 : goal.returns-in_err-push_plan-2
returns-in_err-push_plan-2 c =
    let plans = both_plans c.args.one.now c.args.two.now in
    let p = err_from_is_err_and c.from_residual-in_err-push_plan-2.result c.from_residual-in_err-push_plan-2.ensures.1 in
    rw (p.1, p.2) (second_stop c.args.tree.now c.args.one.now c.args.two.now c.in_err-push_plan-2.field-0.0 (c.in_ok-push_plan.ensures.steps plans refl) (c.in_err-push_plan-2.ensures.steps plans refl))

pub returns : goal.returns
returns c =
    let plans = both_plans c.args.one.now c.args.two.now in
    both_made c.args.tree.now c.args.one.now c.args.two.now c.new-entries.result.items c.push_plan.new.entries.items c.push_plan-2.new.entries.items (tree_form-two c.args.tree.now c.args.form.now c.requires.form) c.new-entries.ensures.items
    (c.in_ok-push_plan.ensures.added plans refl) (c.in_ok-push_plan-2.ensures.added plans refl) (c.in_ok-push_plan.ensures.steps plans refl) (c.in_ok-push_plan-2.ensures.steps plans refl)
