use Rattle.std.proofs.Common.{List, [], ◌∷◌, ◌++◌, Ok, Err}
use Rattle.std.proofs.lemmas.Result.{err_from_is_err_and}
use Rattle.frac128.specs.Steps.{step_of, Step, added_product_steps}
use Rattle.frac128.specs.declared.steps.Op.TheVariants.{Add}
use Rattle.sequence_data.specs.declared.types.Cell.{Cell}
use Rattle.sequence_data.specs.declared.types.Leaf.{Leaf}
use Rattle.sequence_data.proofs.StepStageLemmas.{fit_at-following, fit_at-more}
use Rattle.sequence_data.proofs.cells.with_leaf.Goals as goal

-- the steps of the chance, and of either payoff
abbrev weight_steps : Cell → Leaf → List Step
weight_steps c l = step_of Add c.weight l.chance ∷ []

abbrev first_steps : Cell → Leaf → List Step
first_steps c l = added_product_steps c.one l.chance l.one

abbrev second_steps : Cell → Leaf → List Step
second_steps c l = added_product_steps c.two l.chance l.two

pub returns-in_err-weight-clause-steps : goal.returns-in_err-weight-clause-steps
returns-in_err-weight-clause-steps c =
    let cell = c.args.cell in
    let l = c.args.leaf in
    let p = err_from_is_err_and c.from_residual.result c.from_residual.ensures.1 in
    rw (p.1, p.2) (fit_at-more l.place (weight_steps cell l) (first_steps cell l ++ second_steps cell l) c.in_err-weight.field-0.0 c.in_err-weight.ensures.steps)

pub returns-in_err-one-clause-steps : goal.returns-in_err-one-clause-steps
returns-in_err-one-clause-steps c =
    let cell = c.args.cell in
    let l = c.args.leaf in
    let stop = c.in_err-one.field-0.0 in
    let p = err_from_is_err_and c.from_residual-in_err-one.result c.from_residual-in_err-one.ensures.1 in
    rw (p.1, p.2) (fit_at-following l.place (weight_steps cell l) (first_steps cell l ++ second_steps cell l) (Err stop) c.in_ok-weight.ensures.steps (fit_at-more l.place (first_steps cell l) (second_steps cell l) stop c.in_err-one.ensures.steps))

pub returns-in_err-two-clause-steps : goal.returns-in_err-two-clause-steps
returns-in_err-two-clause-steps c =
    let cell = c.args.cell in
    let l = c.args.leaf in
    let stop = c.in_err-two.field-0.0 in
    let p = err_from_is_err_and c.from_residual-in_err-two.result c.from_residual-in_err-two.ensures.1 in
    rw (p.1, p.2) (fit_at-following l.place (weight_steps cell l) (first_steps cell l ++ second_steps cell l) (Err stop) c.in_ok-weight.ensures.steps (fit_at-following l.place (first_steps cell l) (second_steps cell l) (Err stop) c.in_ok-one.ensures.steps c.in_err-two.ensures.steps))

pub returns-clause-steps : goal.returns-clause-steps
returns-clause-steps c =
    let cell = c.args.cell in
    let l = c.args.leaf in
    fit_at-following l.place (weight_steps cell l) (first_steps cell l ++ second_steps cell l) (Ok tt) c.in_ok-weight.ensures.steps (fit_at-following l.place (first_steps cell l) (second_steps cell l) (Ok tt) c.in_ok-one.ensures.steps c.in_ok-two.ensures.steps)
