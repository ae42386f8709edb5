use Rattle.std.proofs.Common.{arith, ◌+◌, ◌∙◌, refl}
use Rattle.std.proofs.lemmas.List.Elements.{All-nil}
use Rattle.std.proofs.lemmas.Result.{err_from_is_err_and}
use Rattle.frac128.specs.Steps.{StepFits}
use Rattle.rational.specs.Sum.{entry_at}
use Rattle.zero_sum_lp.specs.PlanLists.{weights_from}
use Rattle.zero_sum_lp.proofs.TrimmedListLemmas.{left_next, share_fails, share_fits, share_next}
use Rattle.zero_sum_lp.proofs.PlanStepLemmas.{rest_begins}
use Rattle.zero_sum_lp.proofs.trimming.trim_set.Goals as goal

pub loop-action-init : goal.loop-action-init
loop-action-init c =
    record {
      shape = refl;
      low = λ q l. refl;
      high = λ q l. refl;
      shares = λ a l. absurd (omega arith);
      fits = All-nil StepFits;
      rest = rest_begins (entry_at c.args.weights.now c.args.before) c.weight_at-left.result c.weight_at-left.ensures;
    }

pub loop-action-preserved : goal.loop-action-preserved
loop-action-preserved c =
    record {
      shape = c.set_weight.ensures.length ∙ c.loop-action.invariant.shape;
      low = λ q l. c.set_weight.ensures.others q (λ e. omega (arith, e, l)) ∙ c.loop-action.invariant.low q l;
      high = λ q l. c.set_weight.ensures.others q (λ e. omega (arith, e, l)) ∙ c.loop-action.invariant.high q (omega (arith, l));
      shares = share_next (entry_at c.args.weights.now c.args.before) (weights_from c.args.weights.now c.args.first) (weights_from c.loop-action.weights c.args.first) (weights_from c.set_weight.new.weights c.args.first) c.loop-action.action c.loop-action.left c.weight_at.result c.min-share.result (λ a l. c.set_weight.ensures.others (c.args.first + a) (λ e. omega (arith, e, l))) c.loop-action.invariant.shares c.loop-action.invariant.rest (c.weight_at.ensures ∙ c.loop-action.invariant.high (c.args.first + c.loop-action.action) (omega arith)) c.min-share.ensures c.set_weight.ensures.here;
      fits = share_fits (entry_at c.args.weights.now c.args.before) (weights_from c.loop-action.weights c.args.first) (weights_from c.set_weight.new.weights c.args.first) c.loop-action.action c.loop-action.left c.min-share.result (λ a l. c.set_weight.ensures.others (c.args.first + a) (λ e. omega (arith, e, l))) c.loop-action.invariant.rest c.set_weight.ensures.here c.in_ok-left.ensures.fits c.loop-action.invariant.fits;
      rest = left_next (entry_at c.args.weights.now c.args.before) (weights_from c.loop-action.weights c.args.first) (weights_from c.set_weight.new.weights c.args.first) c.loop-action.action c.loop-action.left c.min-share.result c.in_ok-left.left (λ a l. c.set_weight.ensures.others (c.args.first + a) (λ e. omega (arith, e, l))) c.loop-action.invariant.rest c.set_weight.ensures.here c.in_ok-left.ensures.value;
    }

pub returns-in_err-left-clause-unfit : goal.returns-in_err-left-clause-unfit
returns-in_err-left-clause-unfit c =
    let p = err_from_is_err_and c.from_residual.result c.from_residual.ensures.1 in
    rw (p.1, p.2) (share_fails (entry_at c.args.weights.now c.args.before) (weights_from c.args.weights.now c.args.first) (weights_from c.loop-action.weights c.args.first) (weights_from c.set_weight.new.weights c.args.first) c.loop-action.action c.args.count c.loop-action.left c.weight_at.result c.min-share.result c.in_err-left.field-0.0 c.loop-action-test.true (λ a l. c.set_weight.ensures.others (c.args.first + a) (λ e. omega (arith, e, l))) c.loop-action.invariant.shares c.loop-action.invariant.fits c.loop-action.invariant.rest (c.weight_at.ensures ∙ c.loop-action.invariant.high (c.args.first + c.loop-action.action) (omega arith)) c.min-share.ensures c.set_weight.ensures.here c.in_err-left.ensures.unfit c.in_err-left.ensures.step)
