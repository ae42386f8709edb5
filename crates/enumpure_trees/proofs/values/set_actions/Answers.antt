use Rattle.std.proofs.Common.{◌-◌, ◌<◌, ◌∙◌, ap, get_or, length, arith}
use Rattle.enumpure_trees.proofs.ChoiceNumberLemmas.{choice-written, nothing-written}
use Rattle.enumpure_trees.proofs.values.set_actions.Goals as goal

pub loop-number-init : goal.loop-number-init
loop-number-init c s = ap (λ xs. get_or xs s 0) (c.fill.ensures.after (λ y e. e)) ∙ nothing-written (length c.args.actions.now) c.args.sets.now c.args.choices.now s

pub loop-number-preserved : goal.loop-number-preserved
loop-number-preserved c =
    let inside : get_or c.args.sets.now (c.loop-number.number - 1) 0 < length c.args.actions.now = c.requires.within (c.loop-number.number - 1) 0 (omega arith) in
    choice-written c.loop-number.actions c.args.sets.now c.args.choices.now c.loop-number.number c.loop-number-test.true c.loop-number.auto.number c.requires.one_for_each (omega (arith, inside, c.fill.ensures.len)) c.loop-number.invariant
