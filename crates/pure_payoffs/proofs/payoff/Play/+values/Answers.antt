use Rattle.std.proofs.Common.{Ok, Err, ℕ, ◌≡◌, ◌∙◌, ◌<◌, sym, refl, get_or, arith}
use Rattle.std.proofs.lemmas.Result.{err_from_is_err_and}
use Rattle.pure_payoffs.specs.Plays.{choice_of, game_of}
use Rattle.pure_payoffs.proofs.BranchStepLemmas.{skipped-gives, child-refused, product-refused, product-added, branch-more, branch-refused}
use Rattle.pure_payoffs.proofs.NodeValueLemmas.{owned-gives, end-gives, following-refused, node-added}
use Rattle.pure_payoffs.proofs.PlaceLemmas.{child-read, child-found, play-chooses}
use Rattle.pure_payoffs.proofs.payoff.Play.+values.Goals as goal
use Rattle.pure_payoffs.proofs.payoff.Play.+values.Goals.{value_after-After-index-self-node, chance_value-After-probability-prob}

pub with_branch-returns-then-is_zero-clause-gives : goal.with_branch-returns-then-is_zero-clause-gives
with_branch-returns-then-is_zero-clause-gives t c = skipped-gives _ _ _ _ (c.if-is_zero.ensures.0 refl)

pub with_branch-returns-in_err-value-clause-gives : goal.with_branch-returns-in_err-value-clause-gives
with_branch-returns-in_err-value-clause-gives t c =
    let p = err_from_is_err_and c.from_residual.result c.from_residual.ensures.1 in rw (p.1, p.2) (child-refused c.args.prob c.args.sum _ _ c.in_err-value.field-0.0 (λ e. cc (c.if-is_zero.ensures.1 e)) c.in_err-value.ensures.gives)

pub with_branch-returns-in_err-mul-clause-gives : goal.with_branch-returns-in_err-mul-clause-gives
with_branch-returns-in_err-mul-clause-gives t c =
    let p = err_from_is_err_and c.from_residual-in_err-mul.result c.from_residual-in_err-mul.ensures.1 in rw (p.1, p.2) (product-refused c.args.prob c.args.sum _ _ _ c.in_err-mul.field-0.0 (λ e. cc (c.if-is_zero.ensures.1 e)) c.in_ok-value.ensures.gives.0 c.in_ok-value.ensures.gives.1 c.in_err-mul.ensures.step c.in_err-mul.ensures.unfit)

pub with_branch-returns-clause-gives : goal.with_branch-returns-clause-gives
with_branch-returns-clause-gives t c =
    product-added _ _ _ _ _ _ _ (λ e. cc (c.if-is_zero.ensures.1 e)) c.in_ok-value.ensures.gives.0 c.in_ok-mul.ensures.value c.in_ok-value.ensures.gives.1 c.in_ok-mul.ensures.fits c.add.ensures.value c.add.ensures.fits c.add.ensures.step c.add.ensures.unfit

pub value_at-returns-in_err-value_after-in-Some-clause-gives : goal.value_at-returns-in_err-value_after-in-Some-clause-gives
value_at-returns-in_err-value_after-in-Some-clause-gives t c =
    let p = err_from_is_err_and c.from_residual.result c.from_residual.ensures.1 in
    rw (p.1, p.2) (following-refused _ _ c.args.player c.requires.play.tree (play-chooses _ _ _ c.requires.play) c.args.node c.requires.node _ (sym c.set_at.ensures ∙ c.in-Some.is) _ c.in_err-value_after-in-Some.ensures.gives)

pub value_at-returns-in_ok-value_after-in-Some-clause-gives : goal.value_at-returns-in_ok-value_after-in-Some-clause-gives
value_at-returns-in_ok-value_after-in-Some-clause-gives t c =
    let following = c.in_ok-value_after-in-Some.ensures.gives in
    node-added _ _ c.args.player c.requires.play.tree (play-chooses _ _ _ c.requires.play) c.args.node c.requires.node _ (sym c.set_at.ensures ∙ c.in-Some.is) _ _ _ c.pays-pays.ensures following.0 following.1 c.add.ensures.value c.add.ensures.fits c.add.ensures.step c.add.ensures.unfit

pub value_at-returns-in-None-clause-gives : goal.value_at-returns-in-None-clause-gives
value_at-returns-in-None-clause-gives t c =
    end-gives _ _ c.args.player c.requires.play.tree (play-chooses _ _ _ c.requires.play) c.args.node c.requires.node _ (sym c.set_at.ensures ∙ c.in-None.is) c.pays-pays.ensures

-- the owner chooses one of the set's actions
chosen : (t : ℕ) (c : goal.value_after-After-index-self-node t) → c.action_at-action.result < (game_of c.args.self.now).actions c.args.set
chosen t c =
    let within = c.requires.play.tree.sets_within c.args.node c.args.set c.requires.node c.requires.set in
    rw c.action_at-action.ensures (play-chooses _ _ _ c.requires.play c.args.set c.in-Some.owner within (sym c.owner.ensures ∙ c.in-Some.is))

pub value_after-index-requires : goal.value_after-index-requires
value_after-index-requires t c =
    let read = child-read (λ v. v.items) _ c.args.self.now.children.now c.args.node c.args.set c.action_at-action.result c.index-self-node.result c.requires.play.tree c.requires.play.children_are c.requires.node c.requires.set (chosen t c) in
    rw (get_or c.args.self.now.children.now c.args.node c.index-self-node.result).ok.0 read.0

pub value_after-value-requires : goal.value_after-value-requires
value_after-value-requires t c =
    let below = chosen t (goal.at.value_after-value-requires t c).After-index-self-node in
    let found = child-found (λ v. v.items) _ c.args.self.now.children.now c.args.node c.args.set c.action_at-action.result c.index-self-node.result c.index.result.now c.requires.play.tree c.requires.play.children_are c.requires.node c.requires.set below c.index.ensures in
    (omega arith, (c.requires.play, (found.2, (c.requires.player, c.requires.keep))))

pub value_after-returns-in-Some-clause-gives : goal.value_after-returns-in-Some-clause-gives
value_after-returns-in-Some-clause-gives t c =
    let below = chosen t (goal.at.value_after-returns-in-Some-clause-gives t c).After-index-self-node in
    let found = child-found (λ v. v.items) _ c.args.self.now.children.now c.args.node c.args.set c.action_at-action.result c.index-self-node.result c.index.result.now c.requires.play.tree c.requires.play.children_are c.requires.node c.requires.set below c.index.ensures in
    owned-gives (game_of c.args.self.now) (choice_of c.args.self.now) c.args.player c.args.node c.args.set c.in-Some.owner c.index.result.now _ _ (sym c.owner.ensures ∙ c.in-Some.is) (rw c.action_at-action.ensures at found.0) c.value.ensures.gives

-- an action in the loop is one of the set's
action-within : (t : ℕ) (c : goal.chance_value-After-probability-prob t) → c.loop-action.action < (game_of c.args.self.now).actions c.args.set
action-within t c = omega (arith, c.action_count-action-end.ensures)

pub chance_value-index-requires : goal.chance_value-index-requires
chance_value-index-requires t c =
    let read = child-read (λ v. v.items) _ c.args.self.now.children.now c.args.node c.args.set c.loop-action.action c.index-self-node.result c.requires.play.tree c.requires.play.children_are c.requires.node c.requires.set (action-within t (goal.at.chance_value-index-requires t c).After-probability-prob) in
    rw (get_or c.args.self.now.children.now c.args.node c.index-self-node.result).ok.0 read.0

pub chance_value-with_branch-requires : goal.chance_value-with_branch-requires
chance_value-with_branch-requires t c =
    let below = action-within t (goal.at.chance_value-with_branch-requires t c).After-probability-prob in
    let found = child-found (λ v. v.items) _ c.args.self.now.children.now c.args.node c.args.set c.loop-action.action c.index-self-node.result c.index.result.now c.requires.play.tree c.requires.play.children_are c.requires.node c.requires.set below c.index.ensures in
    (omega arith, (c.requires.play, (found.2, (c.requires.player, c.loop-action.invariant.0))))

pub chance_value-returns-in_err-sum-clause-gives : goal.chance_value-returns-in_err-sum-clause-gives
chance_value-returns-in_err-sum-clause-gives t c =
    let below = action-within t (goal.at.chance_value-returns-in_err-sum-clause-gives t c).After-probability-prob in
    let found = child-found (λ v. v.items) _ c.args.self.now.children.now c.args.node c.args.set c.loop-action.action c.index-self-node.result c.index.result.now c.requires.play.tree c.requires.play.children_are c.requires.node c.requires.set below c.index.ensures in
    let p = err_from_is_err_and c.from_residual.result c.from_residual.ensures.1 in
    rw (p.1, p.2) (branch-refused _ _ _ c.loop-action.action _ _ c.loop-action.invariant.1 c.probability-prob.ensures c.loop-action.invariant.2 _ _ below (rw found.0 at c.in_err-sum.ensures.gives))

pub chance_value-loop-action-preserved : goal.chance_value-loop-action-preserved
chance_value-loop-action-preserved t c =
    let below = action-within t (goal.at.chance_value-loop-action-preserved t c).After-probability-prob in
    let found = child-found (λ v. v.items) _ c.args.self.now.children.now c.args.node c.args.set c.loop-action.action c.index-self-node.result c.index.result.now c.requires.play.tree c.requires.play.children_are c.requires.node c.requires.set below c.index.ensures in
    let more = branch-more _ _ _ c.loop-action.action _ _ c.loop-action.invariant.1 c.probability-prob.ensures c.loop-action.invariant.2 _ (rw found.0 at c.in_ok-sum.ensures.gives.0) (rw found.0 at c.in_ok-sum.ensures.gives.1) in
    (c.in_ok-sum.ensures.keep, more.0, more.1)

pub chance_value-returns-clause-gives : goal.chance_value-returns-clause-gives
chance_value-returns-clause-gives t c =
    let all : c.loop-action.action ≡ (game_of c.args.self.now).actions c.args.set = omega (arith, c.action_count-action-end.ensures) in
    rw (← all) (c.loop-action.invariant.1, c.loop-action.invariant.2)

pub value-returns-in_err-value-clause-gives : goal.value-returns-in_err-value-clause-gives
value-returns-in_err-value-clause-gives t c =
    let p = err_from_is_err_and c.from_residual.result c.from_residual.ensures.1 in
    rw (p.1, p.2) (c.take-target.ensures.stands.gives c.args.player (Err c.in_err-value.field-0.0) tt c.in_err-value.ensures.gives)

pub value-returns-in-Some-clause-gives : goal.value-returns-in-Some-clause-gives
value-returns-in-Some-clause-gives t c = c.take-target.ensures.stands.gives c.args.player (Ok c.in-Some.value) c.fits.ensures c.in-Some.ensures

pub value-returns-clause-gives : goal.value-returns-clause-gives
value-returns-clause-gives t c = c.take-target.ensures.stands.gives c.args.player (Ok c.in_ok-value.value) c.fits-2.ensures c.in_ok-value.ensures.gives
