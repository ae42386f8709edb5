use Rattle.std.proofs.lemmas.List.Elements.{All-nil}
use Rattle.std.proofs.lemmas.Result.{err_from_is_err_and}
use Rattle.frac128.specs.Steps.{StepFits}
use Rattle.rational.specs.Sum.{entry_at}
use Rattle.zero_sum_lp.specs.PlanLists.{weights_from}
use Rattle.zero_sum_lp.proofs.PlanStepLemmas.{rest_begins, rest_next, rest_fits, rest_fails}
use Rattle.zero_sum_lp.proofs.raising.remaining.Goals as goal

pub loop-action-init : goal.loop-action-init
loop-action-init c = record { value = rest_begins (entry_at c.args.weights.now c.args.before) c.weight_at-rest.result c.weight_at-rest.ensures; fits = All-nil StepFits }

pub loop-action-preserved : goal.loop-action-preserved
loop-action-preserved c =
    record {
      value = rest_next (entry_at c.args.weights.now c.args.before) (weights_from c.args.weights.now c.args.first) c.loop-action.action c.loop-action.rest c.weight_at.result c.in_ok-rest.rest c.loop-action.invariant.value c.weight_at.ensures c.in_ok-rest.ensures.value;
      fits = rest_fits (entry_at c.args.weights.now c.args.before) (weights_from c.args.weights.now c.args.first) c.loop-action.action c.loop-action.rest c.weight_at.result c.loop-action.invariant.value c.weight_at.ensures c.in_ok-rest.ensures.fits c.loop-action.invariant.fits;
    }

pub returns-in_err-rest-clause-unfit : goal.returns-in_err-rest-clause-unfit
returns-in_err-rest-clause-unfit c =
    let p = err_from_is_err_and c.from_residual.result c.from_residual.ensures.1 in
    rw (p.1, p.2) (rest_fails (entry_at c.args.weights.now c.args.before) (weights_from c.args.weights.now c.args.first) c.loop-action.action c.args.count c.loop-action.rest c.weight_at.result c.in_err-rest.field-0.0 c.loop-action-test.true c.loop-action.invariant.value c.weight_at.ensures c.in_err-rest.ensures.unfit c.in_err-rest.ensures.step c.loop-action.invariant.fits)
