use Rattle.std.proofs.Common.{[], ◌∷◌, rules}
use Rattle.rational.specs.Rational.{◌*ℚ◌}
use Rattle.frac128.specs.Steps.{step_of}
use Rattle.frac128.specs.declared.steps.Op.TheVariants.{Mul}
use Rattle.frac128.proofs.StepRunLemmas.{product-gives}
use Rattle.sequence_data.proofs.StepStageLemmas.{fit_at-told}
use Rattle.sequence_data.proofs.steps.product.Goals as goal

pub returns-clause-steps : goal.returns-clause-steps
returns-clause-steps c =
    fit_at-told c.args.place (step_of Mul c.args.left c.args.right ∷ []) (c.args.left *ℚ c.args.right) c.mul.result c.map_err.result _ (λ e s k. search rules)
    (product-gives c.args.left c.args.right c.mul.result c.mul.ensures.value c.mul.ensures.fits c.mul.ensures.step c.mul.ensures.unfit) c.map_err.ensures.cases
