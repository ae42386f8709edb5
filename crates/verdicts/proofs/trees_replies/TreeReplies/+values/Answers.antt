use Rattle.std.proofs.Common.{◌≡◌, ◌∙◌, ◌<◌, sym, arith}
use Rattle.std.proofs.lemmas.List.{get_or_default}
use Rattle.std.proofs.lemmas.Result.{err_from_is_err_and}
use Rattle.rational.specs.Rational.{zero_ℚ}
use Rattle.game_theory.proofs.OwnSetLemmas.{is_own-told}
use Rattle.pure_payoffs.proofs.PlaceLemmas.{child-found}
use Rattle.verdicts.specs.TreeReplies.{tree_game_at}
use Rattle.verdicts.proofs.TreeReplyStepLemmas.{own-gives, other-gives, reply-after_refused, reply-product_refused, reply-added}
use Rattle.verdicts.proofs.TreeReplyPartLemmas.{own_sets-child, chosen-within, chosen-known}
use Rattle.frac128.proofs.SumStepLemmas.{sum-more, number-refused, addition-refused}
use Rattle.verdicts.proofs.trees_replies.TreeReplies.+values.Goals as goal

pub children_sum-value-requires : goal.children_sum-value-requires
children_sum-value-requires t c =
    let below : c.loop-action.action < (tree_game_at c.args.self.now).actions c.args.set = omega (arith, c.action_count-action-end.ensures) in
    let found = child-found (λ v. v.items) _ c.args.self.now.children.now c.args.node c.args.set c.loop-action.action c.index-self-node.result c.index.result.now c.requires.replies.tree c.requires.replies.children_are c.requires.node c.requires.set below c.index.ensures in
    (omega (arith, found.1), (c.requires.replies, (c.requires.choices, (c.requires.values, found.2))))

pub children_sum-returns-in_err-value : goal.children_sum-returns-in_err-value
children_sum-returns-in_err-value t c = λ b choice first decided from.
    let below : c.loop-action.action < (tree_game_at c.args.self.now).actions c.args.set = omega (arith, c.action_count-action-end.ensures) in
    let found = child-found (λ v. v.items) _ c.args.self.now.children.now c.args.node c.args.set c.loop-action.action c.index-self-node.result c.index.result.now c.requires.replies.tree c.requires.replies.children_are c.requires.node c.requires.set below c.index.ensures in
    let p = err_from_is_err_and c.from_residual.result c.from_residual.ensures.1 in
    let before = c.loop-action.invariant b choice first decided from in
    let refused = rw found.0 at (c.in_err-value.ensures b choice first decided) in
    rw (p.1, p.2) (number-refused _ _ c.loop-action.action c.loop-action.sum c.loop-action.sum before.0 before.1 _ _ below (refused (own_sets-child _ _ c.args.node c.args.set c.loop-action.action first c.requires.replies.tree c.requires.node c.requires.set below from)))

pub children_sum-returns-in_err-sum : goal.children_sum-returns-in_err-sum
children_sum-returns-in_err-sum t c = λ b choice first decided from.
    let below : c.loop-action.action < (tree_game_at c.args.self.now).actions c.args.set = omega (arith, c.action_count-action-end.ensures) in
    let found = child-found (λ v. v.items) _ c.args.self.now.children.now c.args.node c.args.set c.loop-action.action c.index-self-node.result c.index.result.now c.requires.replies.tree c.requires.replies.children_are c.requires.node c.requires.set below c.index.ensures in
    let p = err_from_is_err_and c.from_residual-in_err-sum.result c.from_residual-in_err-sum.ensures.1 in
    let before = c.loop-action.invariant b choice first decided from in
    let gives = rw found.0 at (c.in_ok-value.ensures b choice first decided) in
    let value = gives (own_sets-child _ _ c.args.node c.args.set c.loop-action.action first c.requires.replies.tree c.requires.node c.requires.set below from) in
    rw (p.1, p.2) (addition-refused _ _ c.loop-action.action c.loop-action.sum c.in_ok-value.field-0 before.0 before.1 _ _ below value.0 value.1 c.in_err-sum.ensures.step c.in_err-sum.ensures.unfit)

pub children_sum-loop-action-preserved : goal.children_sum-loop-action-preserved
children_sum-loop-action-preserved t c = λ b choice first decided from.
    let below : c.loop-action.action < (tree_game_at c.args.self.now).actions c.args.set = omega (arith, c.action_count-action-end.ensures) in
    let found = child-found (λ v. v.items) _ c.args.self.now.children.now c.args.node c.args.set c.loop-action.action c.index-self-node.result c.index.result.now c.requires.replies.tree c.requires.replies.children_are c.requires.node c.requires.set below c.index.ensures in
    let before = c.loop-action.invariant b choice first decided from in
    let gives = rw found.0 at (c.in_ok-value.ensures b choice first decided) in
    let value = gives (own_sets-child _ _ c.args.node c.args.set c.loop-action.action first c.requires.replies.tree c.requires.node c.requires.set below from) in
    sum-more _ _ c.loop-action.action c.loop-action.sum c.in_ok-value.field-0 before.0 before.1 value.0 value.1 _ c.in_ok-sum.ensures.value c.in_ok-sum.ensures.fits

pub children_sum-returns : goal.children_sum-returns
children_sum-returns t c = λ b choice first decided from.
    let all : c.loop-action.action ≡ (tree_game_at c.args.self.now).actions c.args.set = omega (arith, c.action_count-action-end.ensures) in
    rw (← all) (c.loop-action.invariant b choice first decided from)

pub value-returns-in_err-following : goal.value-returns-in_err-following
value-returns-in_err-following t c = λ b choice first decided from.
    let p = err_from_is_err_and c.from_residual.result c.from_residual.ensures.1 in
    rw (p.1, p.2) (reply-after_refused _ b c.args.self.now.player choice c.requires.replies.tree (chosen-within _ b _ choice _ _ _ first decided) c.args.node c.requires.node _ (c.in_err-following.ensures b choice first decided from))

pub value-returns-in_err-worth : goal.value-returns-in_err-worth
value-returns-in_err-worth t c = λ b choice first decided from.
    let p = err_from_is_err_and c.from_residual-in_err-worth.result c.from_residual-in_err-worth.ensures.1 in
    let following = c.in_ok-following.ensures b choice first decided from in
    let weight = get_or_default c.args.self.now.weights.now c.args.node c.index-self-node.result zero_ℚ (omega (arith, c.requires.replies.weights_long, c.requires.node)) ∙ decided.weights_are c.args.node c.requires.node in
    rw (p.1, p.2) (reply-product_refused _ b c.args.self.now.player choice c.requires.replies.tree (chosen-within _ b _ choice _ _ _ first decided) c.args.node c.requires.node _ _ weight c.pays.ensures following.1 _ c.in_err-worth.ensures.step c.in_err-worth.ensures.unfit)

pub value-returns : goal.value-returns
value-returns t c = λ b choice first decided from.
    let following = c.in_ok-following.ensures b choice first decided from in
    let weight = get_or_default c.args.self.now.weights.now c.args.node c.index-self-node.result zero_ℚ (omega (arith, c.requires.replies.weights_long, c.requires.node)) ∙ decided.weights_are c.args.node c.requires.node in
    reply-added _ b c.args.self.now.player choice c.requires.replies.tree (chosen-within _ b _ choice _ _ _ first decided) c.args.node c.requires.node _ _ weight c.pays.ensures following.1 _ _ _ following.0 c.in_ok-worth.ensures.value c.in_ok-worth.ensures.fits c.add.ensures.value c.add.ensures.fits c.add.ensures.step c.add.ensures.unfit

pub value_after-bounds-values-child : goal.value_after-bounds-values-child
value_after-bounds-values-child t c =
    let set = sym c.set_at.ensures ∙ c.in-Some.is in
    let own = (is_own-told (tree_game_at c.args.self.now) c.args.self.now.player c.in-Some.set _ c.is_own.ensures).0 c.if-is_own.true in
    let below = c.requires.choices.within c.in-Some.set (c.requires.replies.tree.sets_within c.args.node c.in-Some.set c.requires.node set) own in
    let found = child-found (λ v. v.items) _ c.args.self.now.children.now c.args.node c.in-Some.set _ c.index-self-node.result c.index-child.result.now c.requires.replies.tree c.requires.replies.children_are c.requires.node set below c.index-child.ensures in
    omega (arith, found.2, c.requires.values)

pub value_after-returns-then-is_own : goal.value_after-returns-then-is_own
value_after-returns-then-is_own t c = λ b choice first decided from.
    let set = sym c.set_at.ensures ∙ c.in-Some.is in
    let own = (is_own-told (tree_game_at c.args.self.now) c.args.self.now.player c.in-Some.set _ c.is_own.ensures).0 c.if-is_own.true in
    let below = c.requires.choices.within c.in-Some.set (c.requires.replies.tree.sets_within c.args.node c.in-Some.set c.requires.node set) own in
    let found = child-found (λ v. v.items) _ c.args.self.now.children.now c.args.node c.in-Some.set _ c.index-self-node.result c.index-child.result.now c.requires.replies.tree c.requires.replies.children_are c.requires.node set below c.index-child.ensures in
    let value = c.index-values-child.is ∙ get_or_default c.args.values.now c.index-child.result.now _ zero_ℚ (omega (arith, found.2, c.requires.values)) ∙ chosen-known _ b _ choice _ _ _ first decided c.args.node c.in-Some.set c.index-child.result.now c.requires.replies.tree c.requires.node set own from found.0 in
    own-gives _ b c.args.self.now.player choice c.requires.replies.tree c.args.node c.in-Some.set c.zero-then-is_own.result c.index-values-child.result _ set own c.zero-then-is_own.ensures value c.add.ensures.value c.add.ensures.fits c.add.ensures.step c.add.ensures.unfit

pub value_after-returns-else-is_own : goal.value_after-returns-else-is_own
value_after-returns-else-is_own t c = λ b choice first decided from.
    other-gives _ b c.args.self.now.player choice c.requires.replies.tree c.args.node c.in-Some.set _ (sym c.set_at.ensures ∙ c.in-Some.is) (λ o. cc ((is_own-told (tree_game_at c.args.self.now) c.args.self.now.player c.in-Some.set _ c.if-is_own.ensures).1 o)) (c.children_sum.ensures b choice first decided from)
