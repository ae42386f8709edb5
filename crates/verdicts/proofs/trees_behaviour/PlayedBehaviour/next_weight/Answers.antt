use Rattle.std.proofs.Common.{◌≡◌, ◌<◌, ◌∙◌, ap, sym, subst, arith}
use Rattle.game_theory.specs.Behaviour.{action_probability}
use Rattle.game_theory.proofs.OwnSetLemmas.{is_own-told}
use Rattle.verdicts.specs.TreeBehaviours.{game_of}
use Rattle.verdicts.proofs.TreeWeightStepLemmas.{weight-kept, weight-more, weight-read}
use Rattle.verdicts.proofs.trees_behaviour.PlayedBehaviour.next_weight.Goals as goal

pub returns-in_default : goal.returns-in_default
returns-in_default c =
    let t = game_of c.args.self.now in
    let later : 0 < c.args.node = omega arith in
    let led = c.requires.played.tree.led_to c.args.node later c.requires.node in
    absurd (c.in_default.not-Some led.0 (c.set_at.ensures ∙ ap t.set c.parent-parent.ensures ∙ led.1))

pub returns-then-is_own : goal.returns-then-is_own
returns-then-is_own c = λ b reads weights.
    let t = game_of c.args.self.now in
    let later : 0 < c.args.node = omega arith in
    let set = ap t.set (sym c.parent-parent.ensures) ∙ sym c.set_at.ensures ∙ c.in-Some.is in
    weight-kept t b c.args.player c.args.node c.in-Some.set c.requires.played.tree later c.requires.node set _ ((is_own-told t c.args.player c.in-Some.set _ c.is_own.ensures).0 c.if-is_own.true)
    (c.index-weights-parent-then-is_own.is ∙ weight-read t b c.args.player c.args.node c.parent-parent.result c.args.weights.now _ c.requires.played.tree later c.requires.node c.requires.weights c.parent-parent.ensures weights)

pub probability-probability-requires-clause-action : goal.probability-probability-requires-clause-action
probability-probability-requires-clause-action c =
    let t = game_of c.args.self.now in
    let later : 0 < c.args.node = omega arith in
    let led = c.requires.played.tree.led_to c.args.node later c.requires.node in
    let set = sym led.1 ∙ ap t.set (sym c.parent-parent.ensures) ∙ sym c.set_at.ensures ∙ c.in-Some.is in
    let same : led.0 ≡ c.in-Some.set = cc in
    subst (λ x. x < t.actions c.in-Some.set) (sym c.branch-self.ensures) (subst (λ x. t.branch c.args.node < t.actions x) same led.2)

pub returns : goal.returns
returns c = λ b reads weights.
    let t = game_of c.args.self.now in
    let later : 0 < c.args.node = omega arith in
    let set = ap t.set (sym c.parent-parent.ensures) ∙ sym c.set_at.ensures ∙ c.in-Some.is in
    weight-more t b c.args.player c.args.node c.in-Some.set c.requires.played.tree later c.requires.node set _ _ _ (λ o. cc ((is_own-told t c.args.player c.in-Some.set _ c.is_own.ensures).1 o, c.if-is_own.false))
    (c.index-weights-parent-2.is ∙ weight-read t b c.args.player c.args.node c.parent-parent.result c.args.weights.now _ c.requires.played.tree later c.requires.node c.requires.weights c.parent-parent.ensures weights)
    (c.probability-probability.ensures b reads ∙ ap (λ a. action_probability t b c.in-Some.set a) c.branch-self.ensures)
    c.mul.ensures.value c.mul.ensures.fits c.mul.ensures.step c.mul.ensures.unfit
