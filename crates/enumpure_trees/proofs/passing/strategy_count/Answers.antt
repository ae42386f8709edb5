use Rattle.std.proofs.Common.{◌+◌, ◌*◌, ◌<◌, ◌≡◌, ◌∙◌, length, take, get_or, slice_get, sym, ap, ap₂, subst, arith}
use Rattle.std.proofs.lemmas.List.{get_or-map, length-map, take_all}
use Rattle.std.proofs.lemmas.Option.{slice_get-get_or}
use Rattle.game_core.specs.TreeGame.{game_of_tree}
use Rattle.game_theory.specs.OwnSets.{own_counts, own_sets}
use Rattle.game_theory.specs.Profiles.{profile_count}
use Rattle.game_theory.proofs.IndexLemmas.{numbers_with-tell}
use Rattle.game_theory.proofs.ProfileCountLemmas.{profile_count-front, profile_count-next}
use Rattle.enumpure_trees.proofs.ColumnLemmas.{own_counts-positive}
use Rattle.enumpure_trees.proofs.passing.strategy_count.Goals as goal
use Rattle.enumpure_trees.proofs.passing.strategy_count.Goals.{After-action_count-count}

pub action_count-count-requires : goal.action_count-count-requires
action_count-count-requires c =
    let g = game_of_tree c.args.tree.now in
    let own = c.sets_of-set-items.result.now in
    let k = c.loop-set.set-index in
    (numbers_with-tell g.owner c.args.player g.sets k (get_or own k 0) (ap (λ sets. slice_get sets k) (sym c.sets_of-set-items.ensures) ∙ slice_get-get_or own k 0 c.loop-set-test.true)).0

-- there is one more own set
inside : (c : After-action_count-count) → c.loop-set.set-index < length (own_sets (game_of_tree c.args.tree.now) c.args.player)
inside c = subst (λ own. c.loop-set.set-index < length own) c.sets_of-set-items.ensures c.loop-set-test.true

-- with its actions the product has one more factor
next : (c : After-action_count-count) → c.loop-set.count * c.action_count-count.result ≡ profile_count (take (c.loop-set.set-index + 1) (own_counts (game_of_tree c.args.tree.now) c.args.player))
next c =
    let g = game_of_tree c.args.tree.now in
    let own = own_sets g c.args.player in
    let counts = own_counts g c.args.player in
    let k = c.loop-set.set-index in
    let at : get_or counts k 0 ≡ c.action_count-count.result = get_or-map g.actions own k 0 0 (inside c) ∙ ap (λ sets. g.actions (get_or sets k 0)) (sym c.sets_of-set-items.ensures) ∙ sym c.action_count-count.ensures in
    ap₂ (λ a b. a * b) c.loop-set.invariant (sym at) ∙ profile_count-next counts k (omega (arith, inside c, length-map own g.actions))

pub overflow_mul-count : goal.overflow_mul-count
overflow_mul-count c =
    let g = game_of_tree c.args.tree.now in
    let here = (goal.at.overflow_mul-count c).After-action_count-count in
    omega (arith, next here, profile_count-front (c.loop-set.set-index + 1) (own_counts g c.args.player) (own_counts-positive g c.stands_for_game_tree.ensures.game c.args.player), c.requires)

pub loop-set-preserved : goal.loop-set-preserved
loop-set-preserved c = next (goal.at.loop-set-preserved c).After-action_count-count

pub returns : goal.returns
returns c =
    let g = game_of_tree c.args.tree.now in
    c.loop-set.invariant ∙ ap profile_count (take_all c.loop-set.set-index (own_counts g c.args.player) (omega (arith, c.loop-set-test.false, ap length c.sets_of-set-items.ensures, length-map (own_sets g c.args.player) g.actions)))
