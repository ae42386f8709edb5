use Rattle.std.proofs.Common.{arith}
use Rattle.std.proofs.lemmas.Result.{err_from_is_err_and}
use Rattle.verdicts.specs.TreeBehaviours.{game_of}
use Rattle.frac128.proofs.StepPartLemmas.{first-refused, second-refused, third-gives}
use Rattle.verdicts.proofs.TreeReplyLemmas.{decided-none}
use Rattle.verdicts.proofs.trees_player.best_payoff.Goals as goal

pub returns-in_err-set_weights : goal.returns-in_err-set_weights
returns-in_err-set_weights c = λ b choice reads ascend best.
    let p = err_from_is_err_and c.from_residual.result c.from_residual.ensures.1 in
    rw (p.1, p.2) (first-refused _ _ _ _ (c.in_err-set_weights.ensures b reads))

pub returns-in_err-decide_all : goal.returns-in_err-decide_all
returns-in_err-decide_all c = λ b choice reads ascend best.
    let p = err_from_is_err_and c.from_residual-in_err-decide_all.result c.from_residual-in_err-decide_all.ensures.1 in
    let weights = c.in_ok-set_weights.ensures b reads in
    let start = decided-none (game_of c.args.played.now) b c.args.player choice _ _ _ c.requires.played.tree ascend best weights.0 in
    rw (p.1, p.2) (second-refused _ _ _ weights.1 _ (c.in_err-decide_all.ensures.decided b choice start))

pub returns : goal.returns
returns c = λ b choice reads ascend best.
    let weights = c.in_ok-set_weights.ensures b reads in
    let start = decided-none (game_of c.args.played.now) b c.args.player choice _ _ _ c.requires.played.tree ascend best weights.0 in
    let decided = c.in_ok-decide_all.ensures.decided b choice start in
    third-gives _ _ _ weights.1 decided.1 _ c.value.result (c.value.ensures b choice 0 decided.0 (λ k s inside below at own. omega arith)) decided.0.choices_are
