use Rattle.std.proofs.Common.{◌++◌, ◌<◌, ◌≡◌, ◌∙◌, Some, sym, ap, ap₂, length, get_or, slice_get, arith}
use Rattle.game_theory.specs.OwnSets.{own_sets}
use Rattle.game_theory.specs.Mixed.{sure}
use Rattle.game_theory.specs.Lines.{listed}
use Rattle.game_theory.specs.Behaviour.{pure}
use Rattle.game_core.specs.TreeGame.{game_of_tree}
use Rattle.behaviour_profile.specs.FirstActions.{first_for_none}
use Rattle.behaviour_profile.proofs.BehaviourEntryLemmas.{own_set-below, own_set-read, actions-counted, first_for_none-place, entries_at-push}
use Rattle.behaviour_profile.proofs.push_player.Goals as goal
use Rattle.behaviour_profile.proofs.push_player.Goals.{In-loop-place}

-- there is an own set at this place
inside : (c : In-loop-place) → c.loop-place.place < length c.sets_of-own.result.now
inside c = omega (arith, c.requires, c.loop-place-test.true, ap length c.sets_of-own.ensures)

at : (c : In-loop-place) → slice_get (own_sets (game_of_tree c.args.tree.now) c.args.player) c.loop-place.place ≡ Some (get_or c.sets_of-own.result.now c.loop-place.place 0)
at c = own_set-read (game_of_tree c.args.tree.now) c.args.player c.loop-place.place c.sets_of-own.result.now c.sets_of-own.ensures (inside c)

below : (c : In-loop-place) → get_or c.sets_of-own.result.now c.loop-place.place 0 < length c.sets-sets.result.now
below c = omega (arith, own_set-below (game_of_tree c.args.tree.now) c.args.player c.loop-place.place _ (at c), ap length c.sets-sets.ensures.sets)

pub bounds-own-place : goal.bounds-own-place
bounds-own-place c = inside (goal.at.bounds-own-place c).In-loop-place

pub bounds-sets-set : goal.bounds-sets-set
bounds-sets-set c = below (goal.at.bounds-sets-set c).In-loop-place

pub loop-place-preserved : goal.loop-place-preserved
loop-place-preserved c =
    let here = (goal.at.loop-place-preserved c).In-loop-place in
    let tree = c.args.tree.now in
    let t = game_of_tree tree in
    let i = c.args.player in
    let place = c.loop-place.place in
    let choices = c.args.strategy.now in
    let actions = ap length c.actions.ensures ∙ actions-counted tree c.sets-sets.result.now c.index-sets-set.result _ c.sets-sets.ensures.sets (below here) c.index-sets-set.is in
    let chosen = c.saturating_sub-chosen.ensures ∙ sym (first_for_none-place t i choices place _ c.requires (at here)) in
    entries_at-push t (pure (first_for_none t i choices)) _ c.loop-place.entries.items c.args.entries.now.items (own_sets t i) place _ (at here) c.loop-place.invariant
    (c.in_ok-push_sure.ensures {u = tt} ∙ ap₂ (λ n k. c.loop-place.entries.items ++ listed n (sure k)) actions chosen)
