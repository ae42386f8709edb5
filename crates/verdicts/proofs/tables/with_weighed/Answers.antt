use Rattle.std.proofs.Common.{subst}
use Rattle.std.proofs.lemmas.Result.{err_from_is_err_and}
use Rattle.rational.specs.Rational.{◌+ℚ◌, ◌*ℚ◌}
use Rattle.frac128.specs.Steps.{StepsGive}
use Rattle.frac128.proofs.StepRunLemmas.{first_unfit-more, following-gives}
use Rattle.verdicts.specs.TableChecks.{weighed_steps}
use Rattle.verdicts.proofs.tables.with_weighed.Goals as goal

pub returns : goal.returns
returns c = λ steps so_far given.
    (let share = c.args.weight *ℚ c.args.number in
    let added = weighed_steps c.args.weight c.args.number in
    let gives = rw c.in_ok-sum.was at given in
    following-gives steps (added so_far) (so_far +ℚ share) c.add_weighed.result gives.1
    (subst (λ s. StepsGive (added s) (s +ℚ share) c.add_weighed.result) gives.0 c.add_weighed.ensures))

pub returns-in_err-sum : goal.returns-in_err-sum
returns-in_err-sum c = λ steps so_far given.
    (let p = err_from_is_err_and c.from_residual.result c.from_residual.ensures.1 in
    let gives = rw c.in_err-sum.was at given in
    rw (p.1, p.2) (first_unfit-more steps (weighed_steps c.args.weight c.args.number so_far) c.in_err-sum.field-0.0 gives))
