use Rattle.std.proofs.lemmas.List.Elements.{All-append}
use Rattle.std.proofs.lemmas.Result.{err_from_is_err_and}
use Rattle.frac128.specs.Steps.{StepFits}
use Rattle.frac128.proofs.StepRunLemmas.{first_unfit-more, first_unfit-following}
use Rattle.verdicts.proofs.trees_player.check_player.Goals as goal

pub returns-in_err-payoff : goal.returns-in_err-payoff
returns-in_err-payoff c = λ b choice reads ascend best.
    let p = err_from_is_err_and c.from_residual.result c.from_residual.ensures.1 in
    rw (p.1, p.2) (first_unfit-more _ _ _ (c.in_err-payoff.ensures b reads))

pub returns-in_err-best : goal.returns-in_err-best
returns-in_err-best c = λ b choice reads ascend best.
    let p = err_from_is_err_and c.from_residual-in_err-best.result c.from_residual-in_err-best.ensures.1 in
    let payoff = c.in_ok-payoff.ensures b reads in
    rw (p.1, p.2) (first_unfit-following _ _ _ payoff.1 (c.in_err-best.ensures b choice reads ascend best))

pub returns : goal.returns
returns c = λ b choice reads ascend best.
    let payoff = c.in_ok-payoff.ensures b reads in
    let reply = c.in_ok-best.ensures b choice reads ascend best in
    (payoff.0, reply.0, All-append StepFits _ _ payoff.1 reply.1, reply.2)
