use Rattle.std.proofs.Common.{[], ◌∷◌, rules}
use Rattle.rational.specs.Rational.{◌+ℚ◌}
use Rattle.frac128.specs.Steps.{step_of}
use Rattle.frac128.specs.declared.steps.Op.TheVariants.{Add}
use Rattle.frac128.proofs.StepRunLemmas.{added-gives}
use Rattle.sequence_data.proofs.StepStageLemmas.{fit_at-told}
use Rattle.sequence_data.proofs.steps.sum.Goals as goal

pub returns-clause-steps : goal.returns-clause-steps
returns-clause-steps c =
    fit_at-told c.args.place (step_of Add c.args.left c.args.right ∷ []) (c.args.left +ℚ c.args.right) c.add.result c.map_err.result _ (λ e s k. search rules)
    (added-gives c.args.left c.args.right c.add.result c.add.ensures.value c.add.ensures.fits c.add.ensures.step c.add.ensures.unfit) c.map_err.ensures.cases
