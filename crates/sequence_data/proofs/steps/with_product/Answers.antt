use Rattle.std.proofs.Common.{[], ◌∷◌, subst}
use Rattle.std.proofs.lemmas.Result.{err_from_is_err_and}
use Rattle.rational.specs.Rational.{◌*ℚ◌}
use Rattle.answers.specs.Answers.{map_ok}
use Rattle.frac128.specs.Steps.{step_of}
use Rattle.frac128.specs.declared.steps.Op.TheVariants.{Add, Mul}
use Rattle.sequence_data.specs.Steps.{fit_at}
use Rattle.sequence_data.proofs.StepStageLemmas.{fit_at-following, fit_at-more}
use Rattle.sequence_data.proofs.steps.with_product.Goals as goal

pub returns-in_err-part-clause-steps : goal.returns-in_err-part-clause-steps
returns-in_err-part-clause-steps c =
    let p = err_from_is_err_and c.from_residual.result c.from_residual.ensures.1 in
    rw (p.1, p.2) (fit_at-more c.args.place (step_of Mul c.args.chance c.args.payoff ∷ []) (step_of Add c.args.before (c.args.chance *ℚ c.args.payoff) ∷ []) c.in_err-part.field-0.0 c.in_err-part.ensures.steps)

pub returns-clause-steps : goal.returns-clause-steps
returns-clause-steps c =
    let answer = map_ok c.sum.result (λ _. tt) in
    fit_at-following c.args.place (step_of Mul c.args.chance c.args.payoff ∷ []) (step_of Add c.args.before (c.args.chance *ℚ c.args.payoff) ∷ []) answer c.in_ok-part.ensures.steps
    (subst (λ v. fit_at c.args.place (step_of Add c.args.before v ∷ []) answer) c.in_ok-part.ensures.value c.sum.ensures.steps)
