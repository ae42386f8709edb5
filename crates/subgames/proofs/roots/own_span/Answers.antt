use Rattle.std.proofs.Common.{◌-◌, ◌∙◌, List, ℕ, length, get_or, arith}
use Rattle.std.proofs.lemmas.Option.{slice_get-get_or}
use Rattle.game_core.specs.TreeGame.{game_of_tree}
use Rattle.game_core.proofs.SetReadLemmas.{set-read, some-member}
use Rattle.subgames.proofs.SpanLemmas.{own_span-of_player}
use Rattle.subgames.proofs.roots.own_span.Goals as goal

pub bounds-members-0 : goal.bounds-members-0
bounds-members-0 c =
    let below = c.stands_for_game_tree.ensures.game.sets_within c.args.node c.in-Some.set c.requires c.in-Some.ensures.at_set in
    some-member c.args.tree.now c.in-Some.set c.index-sets-set.result c.sets.result.now c.members-members.result.now c.stands_for_game_tree.ensures.valid below c.sets.ensures.sets c.index-sets-set.is c.members-members.ensures

pub overflow_sub-result : goal.overflow_sub-result
overflow_sub-result c = omega (arith, bounds-members-0 c)

pub bounds-members-members : goal.bounds-members-members
bounds-members-members c =
    let below = c.stands_for_game_tree.ensures.game.sets_within c.args.node c.in-Some.set c.requires c.in-Some.ensures.at_set in
    omega (arith, some-member c.args.tree.now c.in-Some.set c.index-sets-set.result c.sets.result.now c.members-members.result.now c.stands_for_game_tree.ensures.valid below c.sets.ensures.sets c.index-sets-set.is c.members-members.ensures)

pub returns-in-Some : goal.returns-in-Some
returns-in-Some c =
    let t = c.args.tree.now in
    let s = c.in-Some.set in
    let here = c.in-Some.ensures in
    let below = c.stands_for_game_tree.ensures.game.sets_within c.args.node s c.requires here.at_set in
    let fits = set-read t s c.index-sets-set.result c.sets.result.now c.stands_for_game_tree.ensures.valid below c.sets.ensures.sets c.index-sets-set.is in
    let members : List ℕ = c.members-members.result.now in
    let some = some-member t s c.index-sets-set.result c.sets.result.now members c.stands_for_game_tree.ensures.valid below c.sets.ensures.sets c.index-sets-set.is c.members-members.ensures in
    own_span-of_player (game_of_tree t) c.args.node c.in-Some.field-0-0 s (get_or members 0 0) (get_or members (length members - 1) 0) members here (c.members-members.ensures ∙ fits.members_are)
    (slice_get-get_or members 0 0 some) (slice_get-get_or members (length members - 1) 0 (omega (arith, some)))
