use Rattle.std.proofs.Common.{get_or, ◌+◌, ◌<◌, ◌≡◌, ◌∙◌, Some, map, sym, ap, subst, length, slice_get, arith}
use Rattle.std.specs.Prelude.{sum}
use Rattle.game_theory.specs.OwnSets.{own_sets}
use Rattle.game_core.specs.TreeGame.{game_of_tree}
use Rattle.behaviour_profile.specs.EntryStarts.{AreStartsOf}
use Rattle.behaviour_profile.proofs.ActionTotalLemmas.{actions-few}
use Rattle.behaviour_profile.proofs.BehaviourEntryLemmas.{own_set-below, own_set-read, own_sets-before}
use Rattle.behaviour_profile.proofs.EntryStartLemmas.{next-start, next-within, sets_to-all, sets_to-none, starts-next}
use Rattle.behaviour_profile.proofs.starts.write_starts.Goals as goal
use Rattle.behaviour_profile.proofs.starts.write_starts.Goals.{In-loop-set}

-- the own set that is read
at : (c : In-loop-set) → slice_get (own_sets (game_of_tree c.args.tree.now) c.args.player) c.loop-set.set-index ≡ Some (get_or c.sets_of-set-items.result.now c.loop-set.set-index 0)
at c = own_set-read (game_of_tree c.args.tree.now) c.args.player c.loop-set.set-index c.sets_of-set-items.result.now c.sets_of-set-items.ensures c.loop-set-test.true

-- it is a set of the tree
below : (c : In-loop-set) → (get_or c.sets_of-set-items.result.now c.loop-set.set-index 0) < length c.args.tree.now.sets
below c = own_set-below (game_of_tree c.args.tree.now) c.args.player c.loop-set.set-index (get_or c.sets_of-set-items.result.now c.loop-set.set-index 0) (at c)

pub bounds-starts-set : goal.bounds-starts-set
bounds-starts-set c =
    omega (arith, below (goal.at.bounds-starts-set c).In-loop-set, c.loop-set.invariant.1.long)

pub action_count-next-requires : goal.action_count-next-requires
action_count-next-requires c = below (goal.at.action_count-next-requires c).In-loop-set

pub overflow_add-next : goal.overflow_add-next
overflow_add-next c =
    let found = (goal.at.overflow_add-next c).In-loop-set in
    let t = game_of_tree c.args.tree.now in
    omega (arith, next-within t c.args.player c.loop-set.set-index (get_or c.sets_of-set-items.result.now c.loop-set.set-index 0) (at found) c.requires.player, actions-few c.args.tree.now c.stands_for_game_tree.ensures.valid, c.loop-set.invariant.0, c.action_count-next.ensures)

pub loop-set-init : goal.loop-set-init
loop-set-init c =
    let t = game_of_tree c.args.tree.now in
    let none = sym (sets_to-none t c.args.player) in
    (c.requires.first ∙ ap (λ sets. sum (map t.actions sets)) none, subst (λ sets. AreStartsOf t sets c.args.starts.now) none c.requires.starts)

pub loop-set-preserved : goal.loop-set-preserved
loop-set-preserved c =
    let found = (goal.at.loop-set-preserved c).In-loop-set in
    let t = game_of_tree c.args.tree.now in
    let before = c.loop-set.invariant in
    let next = next-start t c.args.player c.loop-set.set-index (get_or c.sets_of-set-items.result.now c.loop-set.set-index 0) (at found) c.loop-set.next before.0 in
    (ap (λ n. c.loop-set.next + n) c.action_count-next.ensures ∙ next, starts-next t c.args.player c.loop-set.set-index (get_or c.sets_of-set-items.result.now c.loop-set.set-index 0) (at found) c.loop-set.starts c.loop-set.next before.1 before.0)

pub returns-clause-next : goal.returns-clause-next
returns-clause-next c =
    let t = game_of_tree c.args.tree.now in
    let all = sets_to-all t c.args.player c.loop-set.set-index (own_sets-before t c.args.player c.loop-set.set-index c.sets_of-set-items.result.now c.sets_of-set-items.ensures c.loop-set-test.false) in
    c.loop-set.invariant.0 ∙ ap (λ sets. sum (map t.actions sets)) all

pub returns-clause-starts : goal.returns-clause-starts
returns-clause-starts c =
    let t = game_of_tree c.args.tree.now in
    let all = sets_to-all t c.args.player c.loop-set.set-index (own_sets-before t c.args.player c.loop-set.set-index c.sets_of-set-items.result.now c.sets_of-set-items.ensures c.loop-set-test.false) in
    subst (λ sets. AreStartsOf t sets c.loop-set.starts) all c.loop-set.invariant.1
