use Rattle.std.proofs.Common.{◌<◌, ◌≡◌, ◌∙◌, ◌++◌, ◌∷◌, [], List, ℕ, length, map, get_or, take, sym, ap, subst, arith}
use Rattle.std.proofs.lemmas.List.{map-append, take_more}
use Rattle.game_theory.specs.OwnSets.{own_sets}
use Rattle.game_core.specs.TreeGame.{game_of_tree}
use Rattle.strategy_lists.proofs.ActionCountLemmas.{actions-fit, actions-at, own_set-within}
use Rattle.strategy_lists.proofs.strategies.own_action_counts.Goals as goal

pub bounds-sets-set : goal.bounds-sets-set
bounds-sets-set c =
    let below = own_set-within c.args.tree.now c.args.player c.loop-set.set-index c.sets_of-own.result.now c.sets_of-own.ensures c.loop-set-test.true in
    omega (arith, below, ap length c.sets-sets.ensures.sets)

pub overflow_cast-actions : goal.overflow_cast-actions
overflow_cast-actions c =
    let below = own_set-within c.args.tree.now c.args.player c.loop-set.set-index c.sets_of-own.result.now c.sets_of-own.ensures c.loop-set-test.true in
    let is = rw c.sets-sets.ensures.sets at c.index-sets-set.is in
    let fit = actions-fit c.args.tree.now _ c.index-sets-set.result c.sets-sets.ensures.valid below is in
    omega (arith, fit, ap length c.actions.ensures)

pub loop-set-preserved : goal.loop-set-preserved
loop-set-preserved c =
    let t = game_of_tree c.args.tree.now in
    let own : List ℕ = own_sets t c.args.player in
    let k = c.loop-set.set-index in
    let below = own_set-within c.args.tree.now c.args.player k c.sets_of-own.result.now c.sets_of-own.ensures c.loop-set-test.true in
    let is = rw c.sets-sets.ensures.sets at c.index-sets-set.is in
    let actions = actions-at c.args.tree.now _ c.index-sets-set.result below is ∙ ap length (sym c.actions.ensures) in
    let next = ap (map t.actions) (take_more own k 0 (subst (λ sets. k < length sets) c.sets_of-own.ensures c.loop-set-test.true)) ∙ map-append t.actions (take k own) (get_or own k 0 ∷ []) in
    let counted : t.actions (get_or own k 0) ≡ length c.actions.result.now = ap (λ sets. t.actions (get_or sets k 0)) (sym c.sets_of-own.ensures) ∙ actions in
    c.in_ok-push.ensures.items ∙ ap (λ counts. counts ++ length c.actions.result.now ∷ []) c.loop-set.invariant ∙ ap (λ n. map t.actions (take k own) ++ n ∷ []) (sym counted) ∙ sym next
