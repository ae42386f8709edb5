use Rattle.std.proofs.Common.{get_or, ◌<◌, ◌≡◌, ◌++◌, ◌∙◌, Some, ap, length, map, slice_get, arith}
use Rattle.std.proofs.lemmas.List.{length-map}
use Rattle.game_theory.specs.OwnSets.{own_sets}
use Rattle.game_core.specs.TreeGame.{game_of_tree}
use Rattle.behaviour_profile.specs.ListedBehaviour.{listed_behaviour}
use Rattle.game_theory.specs.TreeEntries.{entries_at}
use Rattle.behaviour_profile.proofs.BehaviourEntryLemmas.{entries_at-push, own_set-below, own_set-read, own_sets-before}
use Rattle.behaviour_profile.proofs.ListedEntryLemmas.{listed-set}
use Rattle.behaviour_profile.proofs.listed.push_lists.Goals as goal
use Rattle.behaviour_profile.proofs.listed.push_lists.Goals.{In-loop-set}

-- the own set that is read
at : (c : In-loop-set) → slice_get (own_sets (game_of_tree c.args.tree.now) c.args.player) c.loop-set.set-index ≡ Some (get_or c.sets_of-set-items.result.now c.loop-set.set-index 0)
at c = own_set-read (game_of_tree c.args.tree.now) c.args.player c.loop-set.set-index c.sets_of-set-items.result.now c.sets_of-set-items.ensures c.loop-set-test.true

-- it has a list
below : (c : In-loop-set) → ((get_or c.sets_of-set-items.result.now c.loop-set.set-index 0) < length c.args.tree.now.sets) × ((get_or c.sets_of-set-items.result.now c.loop-set.set-index 0) < length c.args.lists.now)
below c =
    let l = own_set-below (game_of_tree c.args.tree.now) c.args.player c.loop-set.set-index (get_or c.sets_of-set-items.result.now c.loop-set.set-index 0) (at c) in
    (l, omega (arith, l, c.requires.lists.one_for_each, length-map c.args.lists.now (λ v. v.items)))

pub bounds-lists-set : goal.bounds-lists-set
bounds-lists-set c = (below (goal.at.bounds-lists-set c).In-loop-set).1

pub loop-set-preserved : goal.loop-set-preserved
loop-set-preserved c =
    let found = (goal.at.loop-set-preserved c).In-loop-set in
    let t = game_of_tree c.args.tree.now in
    let set = below found in
    let list = listed-set (λ v. v.items) t c.args.lists.now (get_or c.sets_of-set-items.result.now c.loop-set.set-index 0) c.index-lists-set.result c.requires.lists set.1 set.0 c.index-lists-set.is in
    entries_at-push t (listed_behaviour (map (λ v. v.items) c.args.lists.now)) _ c.loop-set.entries.items c.args.entries.now.items (own_sets t c.args.player) c.loop-set.set-index (get_or c.sets_of-set-items.result.now c.loop-set.set-index 0) (at found) c.loop-set.invariant
    (c.in_ok-extend_from_slice.ensures.items ∙ ap (λ v. c.loop-set.entries.items ++ v) (c.as_slice.ensures.value ∙ list))

pub returns : goal.returns
returns c =
    let t = game_of_tree c.args.tree.now in
    c.loop-set.invariant
    ∙ ap (λ sets. c.args.entries.now.items ++ entries_at t (listed_behaviour (map (λ v. v.items) c.args.lists.now)) sets)
    (own_sets-before t c.args.player c.loop-set.set-index c.sets_of-set-items.result.now c.sets_of-set-items.ensures c.loop-set-test.false)
