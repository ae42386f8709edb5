use Rattle.std.proofs.Common.{◌∙◌, ◌≤◌, List, length, arith, ap}
use Rattle.std.proofs.lemmas.List.{length-map}
use Rattle.std.proofs.lemmas.Result.{err_from_is_err_and}
use Rattle.game_core.specs.TreeGame.{game_of_tree}
use Rattle.game_theory.specs.OwnSets.{own_sets}
use Rattle.sequence_data.specs.Data.{SideData}
use Rattle.sequence_data.specs.declared.types.SetRow.{SetRow}
use Rattle.sequence_form.specs.Sequences.{own_set_row}
use Rattle.behaviour_profile.proofs.BehaviourEntryLemmas.{place-below_sets}
use Rattle.behaviour_profile.proofs.PlanShareLemmas.{own_within, row_is, before_within, after_within}
use Rattle.behaviour_profile.proofs.PlanStopLemmas.{all_entries, all_quotients, next_set, set_stop}
use Rattle.behaviour_profile.proofs.plans.push_plan.Goals as goal

abbrev none : SetRow
none = record { before = 0; first = 0; count = 0 }

pub overflow_cast-place : goal.overflow_cast-place
overflow_cast-place c =
    let t = game_of_tree c.args.tree.now in
    let l = own_within t c.args.player c.loop-place.place c.sets-sets.result.now c.args.side.now c.sets-sets.ensures c.requires.side c.loop-place-test.true in
    let valid = c.stands_for_game_tree.ensures.valid in
    omega (arith, place-below_sets t c.args.player c.loop-place.place l, valid.few_sets, valid.few_nodes)

pub label-label-requires : goal.label-label-requires
label-label-requires c = own_within (game_of_tree c.args.tree.now) c.args.player c.loop-place.place c.sets-sets.result.now c.args.side.now c.sets-sets.ensures c.requires.side c.loop-place-test.true

pub push_shares-requires-clause-before : goal.push_shares-requires-clause-before
push_shares-requires-clause-before c =
    omega (arith, c.requires.plan, before_within (game_of_tree c.args.tree.now) c.args.player c.loop-place.place c.sets-sets.result.now c.args.side.now c.sets-sets.ensures c.requires.side c.loop-place-test.true none c.stands_for_game_tree.ensures.game)

pub push_shares-requires-clause-after : goal.push_shares-requires-clause-after
push_shares-requires-clause-after c =
    omega (arith, c.requires.plan, after_within (game_of_tree c.args.tree.now) c.args.player c.loop-place.place c.sets-sets.result.now c.args.side.now c.sets-sets.ensures c.requires.side c.loop-place-test.true none c.stands_for_game_tree.ensures.game)

pub returns-in_err-push_shares-clause-steps : goal.returns-in_err-push_shares-clause-steps
returns-in_err-push_shares-clause-steps c = λ plans plan.
    let t = game_of_tree c.args.tree.now in
    let l = own_within t c.args.player c.loop-place.place c.sets-sets.result.now c.args.side.now c.sets-sets.ensures c.requires.side c.loop-place-test.true in
    let row = row_is t c.args.player c.loop-place.place c.sets-sets.result.now c.args.side.now c.sets-sets.ensures c.requires.side c.loop-place-test.true none in
    let p = err_from_is_err_and c.from_residual.result c.from_residual.ensures.1 in
    rw (p.1, p.2) (set_stop c.args.tree.now c.args.player c.loop-place.place c.label-label.result _ c.args.plan.now plans c.args.entries.now.items c.loop-place.entries.items c.in_err-push_shares.field-0.0 l row plan (c.loop-place.invariant plans plan) c.label-label.ensures c.in_err-push_shares.ensures.steps)

pub loop-place-preserved : goal.loop-place-preserved
loop-place-preserved c = λ plans plan.
    let t = game_of_tree c.args.tree.now in
    let l = own_within t c.args.player c.loop-place.place c.sets-sets.result.now c.args.side.now c.sets-sets.ensures c.requires.side c.loop-place-test.true in
    let row = row_is t c.args.player c.loop-place.place c.sets-sets.result.now c.args.side.now c.sets-sets.ensures c.requires.side c.loop-place-test.true none in
    next_set t c.args.player c.loop-place.place _ c.args.plan.now plans l row plan c.args.entries.now.items c.loop-place.entries.items c.push_shares.new.entries.items (c.loop-place.invariant plans plan) c.in_ok-push_shares.ensures.shares c.in_ok-push_shares.ensures.steps

-- all sets were reached
whole : (c : goal.After-loop-place) → length (own_sets (game_of_tree c.args.tree.now) c.args.player) ≤ c.loop-place.place
whole c =
    let t = game_of_tree c.args.tree.now in
    let rows = c.sets-sets.ensures ∙ ap (λ (s : SideData). s.sets) c.requires.side in
    omega (arith, c.loop-place-test.false, ap (λ (rs : List SetRow). length rs) rows, length-map (own_sets t c.args.player) (own_set_row t c.args.player))

pub returns-clause-added : goal.returns-clause-added
returns-clause-added c = λ plans plan.
    all_entries (game_of_tree c.args.tree.now) c.args.player c.loop-place.place plans c.args.entries.now.items c.loop-place.entries.items (whole c) (c.loop-place.invariant plans plan)

pub returns-clause-steps : goal.returns-clause-steps
returns-clause-steps c = λ plans plan.
    all_quotients (game_of_tree c.args.tree.now) c.args.player c.loop-place.place plans c.args.entries.now.items c.loop-place.entries.items (whole c) (c.loop-place.invariant plans plan)
