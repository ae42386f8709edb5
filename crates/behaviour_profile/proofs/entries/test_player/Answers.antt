use Rattle.std.proofs.Common.{get_or, ℕ, ◌≡◌, ◌<◌, ◌≤◌, ◌+◌, ◌∙◌, List, All, Some, ap, sym, subst, length, slice_get, take, arith}
use Rattle.std.specs.Prelude.{sum}
use Rattle.std.proofs.lemmas.List.{length-take-le}
use Rattle.std.proofs.lemmas.Result.{err_from_is_err_and}
use Rattle.game_core.specs.Tree.{InformationSet}
use Rattle.game_core.specs.TreeGame.{game_of_tree}
use Rattle.behaviour_profile.specs.EntryTests.{TestHolds, tests_from}
use Rattle.game_theory.specs.OwnSets.{own_counts}
use Rattle.behaviour_profile.proofs.GroupListLemmas.{sum-next, end-within, number-within, next_passes, next_fault}
use Rattle.behaviour_profile.proofs.TreeGroupLemmas.{none-left, set-below, count-at, count-is, count-few}
use Rattle.behaviour_profile.proofs.entries.test_player.Goals as goal
use Rattle.behaviour_profile.proofs.entries.test_player.Goals.{After-actions}

counted : (c : After-actions) → length c.actions.result.now ≡ (game_of_tree c.args.tree.now).actions (get_or c.sets_of-set-items.result.now c.loop-set.set-index 0)
counted c =
    ap length c.actions.ensures
    ∙ count-is c.args.tree.now c.args.player c.loop-set.set-index c.sets_of-set-items.result.now c.sets_of-set-items.ensures c.loop-set-test.true c.sets.result.now c.index-sets-set.result c.sets.ensures.sets c.index-sets-set.is

at : (c : After-actions) → slice_get (own_counts (game_of_tree c.args.tree.now) c.args.player) c.loop-set.set-index ≡ Some (length c.actions.result.now)
at c =
    count-at c.args.tree.now c.args.player c.loop-set.set-index c.sets_of-set-items.result.now c.sets_of-set-items.ensures c.loop-set-test.true
    ∙ ap Some (sym (counted c))

within : (c : After-actions) → c.loop-set.set-index < length (own_counts (game_of_tree c.args.tree.now) c.args.player)
within c = number-within (own_counts (game_of_tree c.args.tree.now) c.args.player) c.loop-set.set-index _ (at c)

end : (c : After-actions) → sum (take c.loop-set.set-index (own_counts (game_of_tree c.args.tree.now) c.args.player)) + length c.actions.result.now ≤ sum (own_counts (game_of_tree c.args.tree.now) c.args.player)
end c = end-within (own_counts (game_of_tree c.args.tree.now) c.args.player) c.loop-set.set-index _ (at c)

all : (c : goal.After-loop-set) → take c.loop-set.set-index (own_counts (game_of_tree c.args.tree.now) c.args.player) ≡ own_counts (game_of_tree c.args.tree.now) c.args.player
all c = none-left c.args.tree.now c.args.player c.loop-set.set-index c.sets_of-set-items.result.now c.sets_of-set-items.ensures c.loop-set-test.false

pub bounds-sets-set : goal.bounds-sets-set
bounds-sets-set c =
    let below = set-below c.args.tree.now c.args.player c.loop-set.set-index c.sets_of-set-items.result.now c.sets_of-set-items.ensures c.loop-set-test.true in
    omega (arith, below, ap (λ (sets : List InformationSet). length sets) c.sets.ensures.sets)

pub overflow_cast-count : goal.overflow_cast-count
overflow_cast-count c =
    let few = count-few c.args.tree.now c.args.player c.loop-set.set-index c.sets_of-set-items.result.now c.sets_of-set-items.ensures c.loop-set-test.true (length c.actions.result.now) c.sets.ensures.valid (counted (goal.at.overflow_cast-count c).After-actions) in
    omega (arith, few)

pub test_group-requires-clause-within : goal.test_group-requires-clause-within
test_group-requires-clause-within c =
    omega (arith, c.requires.within, c.loop-set.invariant.place, end (goal.at.test_group-requires-clause-within c).After-actions)

pub test_group-requires-clause-few : goal.test_group-requires-clause-few
test_group-requires-clause-few c =
    omega (arith, c.requires.few, c.loop-set.invariant.place, end (goal.at.test_group-requires-clause-few c).After-actions)

pub overflow_add-here : goal.overflow_add-here
overflow_add-here c =
    omega (arith, c.requires.few, c.loop-set.invariant.place, end (goal.at.overflow_add-here c).After-actions)

pub returns-in_err-test_group-clause-tests : goal.returns-in_err-test_group-clause-tests
returns-in_err-test_group-clause-tests c =
    let p = err_from_is_err_and c.from_residual.result c.from_residual.ensures.1 in
    rw (p.1, p.2) (next_fault (own_counts (game_of_tree c.args.tree.now) c.args.player) c.loop-set.set-index _ (at (goal.at.returns-in_err-test_group-clause-tests c).After-actions)
    c.args.entries.now c.args.place c.args.group c.loop-set.here c.loop-set.number c.loop-set.invariant.place c.loop-set.invariant.group c.loop-set.invariant.passed c.in_err-test_group.field-0.0 c.in_err-test_group.ensures)

pub overflow_add-number : goal.overflow_add-number
overflow_add-number c = omega (arith, c.requires.groups, c.loop-set.invariant.group, within (goal.at.overflow_add-number c).After-actions)

pub loop-set-preserved : goal.loop-set-preserved
loop-set-preserved c =
    let a = (goal.at.loop-set-preserved c).After-actions in
    let counts : List ℕ = own_counts (game_of_tree c.args.tree.now) c.args.player in
    let next = sum-next counts c.loop-set.set-index _ (at a) in
    record {
      within = omega (arith, within a);
      place = omega (arith, c.loop-set.invariant.place, next);
      group = omega (arith, c.loop-set.invariant.group);
      passed = next_passes counts c.loop-set.set-index _ (at a) c.args.entries.now c.args.place c.args.group c.loop-set.here c.loop-set.number c.loop-set.invariant.place c.loop-set.invariant.group c.loop-set.invariant.passed c.in_ok-test_group.ensures;
    }

pub returns-clause-place : goal.returns-clause-place
returns-clause-place c =
    omega (arith, c.loop-set.invariant.place, ap sum (all c))

pub returns-clause-group : goal.returns-clause-group
returns-clause-group c =
    omega (arith, c.loop-set.invariant.group, c.loop-set.invariant.within, ap length (all c), length-take-le c.loop-set.set-index (own_counts (game_of_tree c.args.tree.now) c.args.player) c.loop-set.invariant.within)

pub returns-clause-tests : goal.returns-clause-tests
returns-clause-tests c =
    subst (λ v. All TestHolds (tests_from c.args.entries.now c.args.place c.args.group v)) (all c) c.loop-set.invariant.passed
