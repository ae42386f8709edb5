use Rattle.std.proofs.Common.{rules, option_map, refl}
use Rattle.std.specs.Vec.{with_item}
use Rattle.game_core.specs.TokenList.{bare}
use Rattle.tree_grammar.proofs.SetStepLemmas.{Comes, step_without, first_refused, first_used, later_refused, later_used, sets_begin, sets_go_on}
use Rattle.tree_grammar.proofs.sets.read_set.Goals as goal
use Rattle.tree_grammar.proofs.sets.read_set.Goals.{In_ok-place}

-- what is known of the set that comes, where its key was noted
comes : (c : In_ok-place) → Comes c.sets.inside c.args.owner (bare c.args.tokens.now) (bare c.optional_text.result.1.now) c.in-Some.label (option_map (λ t. t.now) c.optional_text.result.0) c.in_ok-place.place c.in_ok-place.is_new
comes c = record {
  are = c.sets.invariant;
  following = bare c.in-Some.following.now;
  is_label = c.in-Some.ensures;
  is_name = c.optional_text.ensures;
  is_place = c.in_ok-place.ensures.place;
  within = c.in_ok-place.ensures.within;
  is_added = c.in_ok-place.ensures.added;
}

pub returns-in_default : goal.returns-in_default
returns-in_default c = step_without c.args.node c.args.sets c.args.owner (bare c.args.tokens.now) c.unexpected.result c.in_default.ensures c.unexpected.ensures

pub returns-in_err-set : goal.returns-in_err-set
returns-in_err-set c =
    let known = comes (goal.at.returns-in_err-set c).In_ok-place in
    let refused = first_refused known c.args.node c.in_err-set.field-0.0 c.if-is_new.true c.in_err-set.ensures.read in
    rw (← c.sets.view_is) (search (refused, rules))

pub returns-in_err-rest : goal.returns-in_err-rest
returns-in_err-rest c =
    let known = comes (goal.at.returns-in_err-rest c).In_ok-place in
    let refused = later_refused known c.args.node c.index_mut.result.now c.in_err-rest.field-0.0 c.if-is_new.false c.index_mut.ensures.value c.in_err-rest.ensures.read in
    rw (← c.sets.view_is) (search (refused, rules))

pub invariant_of-result : goal.invariant_of-result
invariant_of-result c =
    sets_begin c.sets.inside (record { keys = c.placed.new.known; list = c.push.new.self }) c.args.node (record { owner = c.args.owner; label = c.in-Some.label }) _ c.in_ok-set.set c.in_ok-place.is_new c.sets.invariant c.if-is_new.true c.in_ok-place.ensures.keys c.in_ok-push.ensures.items c.in_ok-set.ensures.set

pub returns-in_ok-push : goal.returns-in_ok-push
returns-in_ok-push c =
    let known = comes (goal.at.returns-in_ok-push c).In_ok-place in
    rw (← c.sets.view_is) (first_used known c.args.node (record { keys = c.placed.new.known; list = c.push.new.self }) c.in_ok-set.set (bare c.in_ok-set.rest.now) c.if-is_new.true c.in_ok-set.ensures.read c.in_ok-set.ensures.set c.in_ok-push.ensures.items)

pub invariant_of-result-else-is_new : goal.invariant_of-result-else-is_new
invariant_of-result-else-is_new c =
    sets_go_on c.sets.inside (record { keys = c.placed.new.known; list = with_item c.sets.inside.list c.in_ok-place.place c.later_use.new.set }) c.args.node (record { owner = c.args.owner; label = c.in-Some.label }) _ c.in_ok-place.place c.index_mut.result.now c.later_use.new.set c.in_ok-place.is_new c.sets.invariant c.if-is_new.false c.in_ok-place.ensures.keys c.index_mut.ensures.value refl c.in_ok-rest.ensures.set

pub returns-in_ok-rest : goal.returns-in_ok-rest
returns-in_ok-rest c =
    let known = comes (goal.at.returns-in_ok-rest c).In_ok-place in
    rw (← c.sets.view_is) (later_used known c.args.node (record { keys = c.placed.new.known; list = with_item c.sets.inside.list c.in_ok-place.place c.later_use.new.set }) c.index_mut.result.now c.later_use.new.set (bare c.in_ok-rest.rest.now) c.if-is_new.false c.index_mut.ensures.value c.in_ok-rest.ensures.read c.in_ok-rest.ensures.set refl)
