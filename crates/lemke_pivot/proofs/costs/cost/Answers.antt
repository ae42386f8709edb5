use Rattle.std.proofs.lemmas.Result.{err_from_is_err_and}
use Rattle.frac128.specs.Steps.{step_of}
use Rattle.frac128.specs.declared.steps.Op.TheVariants.{Mul}
use Rattle.frac128.proofs.StepRunLemmas.{first_unfit-same}
use Rattle.lemke_pivot.proofs.CostStepLemmas.{difference_gives}
use Rattle.lemke_pivot.proofs.costs.cost.Goals as goal

pub returns-in_err-part : goal.returns-in_err-part
returns-in_err-part c =
    let p = err_from_is_err_and c.from_residual.result c.from_residual.ensures.1 in
    rw (p.1, p.2) (first_unfit-same (step_of Mul c.args.most c.args.weight) _ c.in_err-part.field-0.0 c.in_err-part.ensures.unfit c.in_err-part.ensures.step)

pub returns : goal.returns
returns c =
    difference_gives c.args.most c.args.weight c.args.payoff c.in_ok-part.part c.sub.result c.in_ok-part.ensures.value c.in_ok-part.ensures.fits c.sub.ensures.value c.sub.ensures.fits c.sub.ensures.step c.sub.ensures.unfit
