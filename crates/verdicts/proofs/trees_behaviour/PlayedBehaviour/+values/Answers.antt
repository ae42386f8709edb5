use Rattle.std.proofs.Common.{◌≡◌, ◌∙◌, ◌<◌, refl, sym, arith}
use Rattle.std.proofs.lemmas.Result.{err_from_is_err_and}
use Rattle.pure_payoffs.proofs.BranchStepLemmas.{skipped-gives, child-refused, product-refused, product-added, branch-more, branch-refused}
use Rattle.pure_payoffs.proofs.PlaceLemmas.{child-found}
use Rattle.verdicts.specs.TreeBehaviours.{game_of}
use Rattle.verdicts.proofs.TreeBehaviourStepLemmas.{behaviour-end, behaviour-refused, behaviour-added}
use Rattle.verdicts.proofs.trees_behaviour.PlayedBehaviour.+values.Goals as goal

pub with_branch-returns-then-is_zero : goal.with_branch-returns-then-is_zero
with_branch-returns-then-is_zero t c = λ b reads. skipped-gives _ _ _ _ (c.if-is_zero.ensures.0 refl)

pub with_branch-returns-in_err-value : goal.with_branch-returns-in_err-value
with_branch-returns-in_err-value t c = λ b reads.
    let p = err_from_is_err_and c.from_residual.result c.from_residual.ensures.1 in
    rw (p.1, p.2) (child-refused c.args.probability c.args.sum _ _ c.in_err-value.field-0.0 (λ e. cc (c.if-is_zero.ensures.1 e)) (c.in_err-value.ensures b reads))

pub with_branch-returns-in_err-mul : goal.with_branch-returns-in_err-mul
with_branch-returns-in_err-mul t c = λ b reads.
    let p = err_from_is_err_and c.from_residual-in_err-mul.result c.from_residual-in_err-mul.ensures.1 in
    let value = c.in_ok-value.ensures b reads in
    rw (p.1, p.2) (product-refused c.args.probability c.args.sum _ _ _ c.in_err-mul.field-0.0 (λ e. cc (c.if-is_zero.ensures.1 e)) value.0 value.1 c.in_err-mul.ensures.step c.in_err-mul.ensures.unfit)

pub with_branch-returns : goal.with_branch-returns
with_branch-returns t c = λ b reads.
    let value = c.in_ok-value.ensures b reads in
    product-added _ _ _ _ _ _ _ (λ e. cc (c.if-is_zero.ensures.1 e)) value.0 c.in_ok-mul.ensures.value value.1 c.in_ok-mul.ensures.fits c.add.ensures.value c.add.ensures.fits c.add.ensures.step c.add.ensures.unfit

pub value-returns-in_err-value_after-in-Some : goal.value-returns-in_err-value_after-in-Some
value-returns-in_err-value_after-in-Some t c = λ b reads.
    let p = err_from_is_err_and c.from_residual.result c.from_residual.ensures.1 in
    rw (p.1, p.2) (behaviour-refused _ b c.args.player c.requires.played.tree c.args.node c.requires.node _ (sym c.set_at.ensures ∙ c.in-Some.is) _ (c.in_err-value_after-in-Some.ensures b reads))

pub value-returns-in_ok-value_after-in-Some : goal.value-returns-in_ok-value_after-in-Some
value-returns-in_ok-value_after-in-Some t c = λ b reads.
    let following = c.in_ok-value_after-in-Some.ensures b reads in
    behaviour-added _ b c.args.player c.requires.played.tree c.args.node c.requires.node _ (sym c.set_at.ensures ∙ c.in-Some.is) _ _ _ c.pays-pays.ensures following.0 following.1 c.add.ensures.value c.add.ensures.fits c.add.ensures.step c.add.ensures.unfit

pub value-returns-in-None : goal.value-returns-in-None
value-returns-in-None t c = λ b reads. behaviour-end _ b c.args.player c.requires.played.tree c.args.node c.requires.node _ (sym c.set_at.ensures ∙ c.in-None.is) c.pays-pays.ensures

pub value_after-with_branch-requires : goal.value_after-with_branch-requires
value_after-with_branch-requires t c =
    let below : c.loop-action.action < (game_of c.args.self.now).actions c.args.set = omega (arith, c.action_count-action-end.ensures) in
    let found = child-found (λ v. v.items) _ c.args.self.now.children.now c.args.node c.args.set c.loop-action.action c.index-self-node.result c.index.result.now c.requires.played.tree c.requires.played.children_are c.requires.node c.requires.set below c.index.ensures in
    (omega (arith, found.1), (c.requires.played, (found.2, c.requires.player)))

pub value_after-returns-in_err-sum : goal.value_after-returns-in_err-sum
value_after-returns-in_err-sum t c = λ b reads.
    let below : c.loop-action.action < (game_of c.args.self.now).actions c.args.set = omega (arith, c.action_count-action-end.ensures) in
    let found = child-found (λ v. v.items) _ c.args.self.now.children.now c.args.node c.args.set c.loop-action.action c.index-self-node.result c.index.result.now c.requires.played.tree c.requires.played.children_are c.requires.node c.requires.set below c.index.ensures in
    let p = err_from_is_err_and c.from_residual.result c.from_residual.ensures.1 in
    let before = c.loop-action.invariant b reads in
    rw (p.1, p.2) (branch-refused _ _ _ c.loop-action.action _ _ before.0 (c.probability-probability.ensures b reads) before.1 _ _ below (rw found.0 at (c.in_err-sum.ensures b reads)))

pub value_after-loop-action-preserved : goal.value_after-loop-action-preserved
value_after-loop-action-preserved t c = λ b reads.
    let below : c.loop-action.action < (game_of c.args.self.now).actions c.args.set = omega (arith, c.action_count-action-end.ensures) in
    let found = child-found (λ v. v.items) _ c.args.self.now.children.now c.args.node c.args.set c.loop-action.action c.index-self-node.result c.index.result.now c.requires.played.tree c.requires.played.children_are c.requires.node c.requires.set below c.index.ensures in
    let before = c.loop-action.invariant b reads in
    let sum = c.in_ok-sum.ensures b reads in
    branch-more _ _ _ c.loop-action.action _ _ before.0 (c.probability-probability.ensures b reads) before.1 _ (rw found.0 at sum.0) (rw found.0 at sum.1)

pub value_after-returns : goal.value_after-returns
value_after-returns t c = λ b reads.
    let all : c.loop-action.action ≡ (game_of c.args.self.now).actions c.args.set = omega (arith, c.action_count-action-end.ensures) in
    rw (← all) (c.loop-action.invariant b reads)
