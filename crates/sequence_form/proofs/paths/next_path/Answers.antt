use Rattle.std.proofs.Common.{ap, subst, All, Ok, Err}
use Rattle.std.proofs.lemmas.Result.{err_from_is_err_and}
use Rattle.game_core.specs.TreeGame.{game_of_tree}
use Rattle.frac128.specs.Steps.{StepFits}
use Rattle.sequence_data.specs.Steps.{fit_at}
use Rattle.sequence_form.proofs.PathStepLemmas.{chance-stop, one-stop, payoff-is, same_leaf, step-is, two-answer}
use Rattle.sequence_form.proofs.paths.next_path.Goals as goal

pub returns-in_err-chance-clause-steps : goal.returns-in_err-chance-clause-steps
returns-in_err-chance-clause-steps c =
    let p = err_from_is_err_and c.from_residual.result c.from_residual.ensures.1 in
    rw (p.1, p.2) (chance-stop (game_of_tree c.args.tree.now) c.args.node c.in_err-chance.field-0.0 c.in_err-chance.ensures.steps)

pub returns-in_err-one-clause-steps : goal.returns-in_err-one-clause-steps
returns-in_err-one-clause-steps c =
    let g = game_of_tree c.args.tree.now in
    let one = step-is g c.args.node 0 c.args.above.one c.pays.result (ap (λ l. l.one) c.requires.above) c.pays.ensures in
    let p = err_from_is_err_and c.from_residual-in_err-one.result c.from_residual-in_err-one.ensures.1 in
    rw (p.1, p.2) (one-stop g c.args.node c.in_err-one.field-0.0 c.in_ok-chance.ensures.steps (subst (λ s. fit_at c.args.node s (Err c.in_err-one.field-0.0)) one c.in_err-one.ensures.steps))

pub returns-in_err-two-clause-steps : goal.returns-in_err-two-clause-steps
returns-in_err-two-clause-steps c =
    let g = game_of_tree c.args.tree.now in
    let one = step-is g c.args.node 0 c.args.above.one c.pays.result (ap (λ l. l.one) c.requires.above) c.pays.ensures in
    let two = step-is g c.args.node 1 c.args.above.two c.pays-2.result (ap (λ l. l.two) c.requires.above) c.pays-2.ensures in
    let p = err_from_is_err_and c.from_residual-in_err-two.result c.from_residual-in_err-two.ensures.1 in
    rw (p.1, p.2) (two-answer g c.args.node (Err c.in_err-two.field-0.0) c.in_ok-chance.ensures.steps (subst (All StepFits) one c.in_ok-one.ensures.steps) (subst (λ s. fit_at c.args.node s (Err c.in_err-two.field-0.0)) two c.in_err-two.ensures.steps))

pub returns-clause-value : goal.returns-clause-value
returns-clause-value c =
    let g = game_of_tree c.args.tree.now in
    let one = payoff-is g c.args.node 0 c.args.above.one c.pays.result c.in_ok-one.one c.stands_for_game_tree.ensures.game c.requires.later c.requires.node (ap (λ l. l.one) c.requires.above) c.pays.ensures c.in_ok-one.ensures.value in
    let two = payoff-is g c.args.node 1 c.args.above.two c.pays-2.result c.in_ok-two.two c.stands_for_game_tree.ensures.game c.requires.later c.requires.node (ap (λ l. l.two) c.requires.above) c.pays-2.ensures c.in_ok-two.ensures.value in
    same_leaf c.args.node _ _ _ _ _ _ _ _ _ _ c.last_sequence.ensures c.last_sequence-2.ensures c.in_ok-chance.ensures.value one two

pub returns-clause-steps : goal.returns-clause-steps
returns-clause-steps c =
    let g = game_of_tree c.args.tree.now in
    let one = step-is g c.args.node 0 c.args.above.one c.pays.result (ap (λ l. l.one) c.requires.above) c.pays.ensures in
    let two = step-is g c.args.node 1 c.args.above.two c.pays-2.result (ap (λ l. l.two) c.requires.above) c.pays-2.ensures in
    two-answer g c.args.node (Ok tt) c.in_ok-chance.ensures.steps (subst (All StepFits) one c.in_ok-one.ensures.steps) (subst (All StepFits) two c.in_ok-two.ensures.steps)
