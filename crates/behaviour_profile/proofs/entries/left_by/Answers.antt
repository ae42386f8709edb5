use Rattle.std.proofs.Common.{get_or, ◌≡◌, ◌<◌, ◌≤◌, ◌+◌, ◌∙◌, List, ap, sym, subst, length, take, arith}
use Rattle.std.specs.Prelude.{sum}
use Rattle.game_core.specs.Tree.{InformationSet}
use Rattle.game_core.specs.TreeGame.{game_of_tree}
use Rattle.game_theory.specs.OwnSets.{own_counts}
use Rattle.behaviour_profile.proofs.GroupListLemmas.{sum-next, end-within, number-within}
use Rattle.behaviour_profile.proofs.TreeGroupLemmas.{none-left, set-below, count-at, count-is}
use Rattle.behaviour_profile.proofs.entries.left_by.Goals as goal
use Rattle.behaviour_profile.proofs.entries.left_by.Goals.{After-actions}

within : (c : After-actions) → c.loop-set.set-index < length (own_counts (game_of_tree c.args.tree.now) c.args.player)
within c =
    number-within (own_counts (game_of_tree c.args.tree.now) c.args.player) c.loop-set.set-index _
    (count-at c.args.tree.now c.args.player c.loop-set.set-index c.sets_of-set-items.result.now c.sets_of-set-items.ensures c.loop-set-test.true)

counted : (c : After-actions) → length c.actions.result.now ≡ (game_of_tree c.args.tree.now).actions (get_or c.sets_of-set-items.result.now c.loop-set.set-index 0)
counted c =
    ap length c.actions.ensures
    ∙ count-is c.args.tree.now c.args.player c.loop-set.set-index c.sets_of-set-items.result.now c.sets_of-set-items.ensures c.loop-set-test.true c.sets.result.now c.index-sets-set.result c.sets.ensures.sets c.index-sets-set.is

next : (c : After-actions) → sum (take (c.loop-set.set-index + 1) (own_counts (game_of_tree c.args.tree.now) c.args.player)) ≡ sum (take c.loop-set.set-index (own_counts (game_of_tree c.args.tree.now) c.args.player)) + length c.actions.result.now
next c =
    sum-next (own_counts (game_of_tree c.args.tree.now) c.args.player) c.loop-set.set-index _
    (count-at c.args.tree.now c.args.player c.loop-set.set-index c.sets_of-set-items.result.now c.sets_of-set-items.ensures c.loop-set-test.true)
    ∙ ap (λ n. sum (take c.loop-set.set-index (own_counts (game_of_tree c.args.tree.now) c.args.player)) + n) (sym (counted c))

end : (c : After-actions) → sum (take c.loop-set.set-index (own_counts (game_of_tree c.args.tree.now) c.args.player)) + length c.actions.result.now ≤ sum (own_counts (game_of_tree c.args.tree.now) c.args.player)
end c =
    subst (λ n. sum (take c.loop-set.set-index (own_counts (game_of_tree c.args.tree.now) c.args.player)) + n ≤ sum (own_counts (game_of_tree c.args.tree.now) c.args.player)) (sym (counted c))
    (end-within (own_counts (game_of_tree c.args.tree.now) c.args.player) c.loop-set.set-index _
    (count-at c.args.tree.now c.args.player c.loop-set.set-index c.sets_of-set-items.result.now c.sets_of-set-items.ensures c.loop-set-test.true))

pub bounds-sets-set : goal.bounds-sets-set
bounds-sets-set c =
    let below = set-below c.args.tree.now c.args.player c.loop-set.set-index c.sets_of-set-items.result.now c.sets_of-set-items.ensures c.loop-set-test.true in
    omega (arith, below, ap (λ (sets : List InformationSet). length sets) c.sets.ensures.sets)

pub returns-in_err-left : goal.returns-in_err-left
returns-in_err-left c =
    let a = (goal.at.returns-in_err-left c).After-actions in
    rw c.from_residual.ensures (omega (arith, c.loop-set.invariant, end a, c.in_err-left.ensures))

pub loop-set-preserved : goal.loop-set-preserved
loop-set-preserved c =
    let a = (goal.at.loop-set-preserved c).After-actions in
    omega (arith, c.loop-set.invariant, next a, c.in_ok-left.ensures)

pub returns : goal.returns
returns c =
    let all = none-left c.args.tree.now c.args.player c.loop-set.set-index c.sets_of-set-items.result.now c.sets_of-set-items.ensures c.loop-set-test.false in
    omega (arith, c.loop-set.invariant, ap sum all)
