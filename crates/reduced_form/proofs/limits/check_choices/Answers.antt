use Rattle.std.proofs.Common.{◌+◌, ◌*◌, ◌<◌, ◌≤◌, ◌≡◌, inr, Err, length, get_or, sym, ap, subst, arith}
use Rattle.answers.specs.Answers.{Gives}
use Rattle.game_core.specs.TreeGame.{game_of_tree}
use Rattle.game_theory.specs.OwnSets.{own_sets}
use Rattle.reduced_form.specs.Counts.{counts_in}
use Rattle.reduced_form.specs.Limits.{most_choices}
use Rattle.reduced_form.specs.declared.stop.ReduceStop.TheVariants as stops
use Rattle.reduced_form.proofs.FormCountLemmas.{choices-step, few_choices, few_strategies, many-choices}
use Rattle.game_theory.proofs.IndexLemmas.{numbers_with-length}
use Rattle.reduced_form.proofs.limits.check_choices.Goals as goal
use Rattle.reduced_form.proofs.limits.check_choices.Goals.{After-sets_of}

-- so many own sets the player has
counted : (c : After-sets_of) → length c.sets_of.result.now ≡ length (own_sets (game_of_tree c.args.tree.now) c.loop-player.player)
counted c = ap length c.sets_of.ensures

-- the choices of one player are few
few : (c : After-sets_of) → get_or c.args.counts.now c.loop-player.player 0 * length c.sets_of.result.now ≤ 68719476736
few c =
    let valid = c.trees_are_game_trees.ensures c.args.tree.now c.players-player-end.ensures.valid in
    let some : 0 < length c.args.tree.now.players = omega (arith, ap length c.players-player-end.ensures.players) in
    few_choices _ _ (few_strategies (game_of_tree c.args.tree.now) c.args.counts.now c.loop-player.player valid c.requires.counted some c.requires.few)
    (omega (arith, counted c, numbers_with-length (game_of_tree c.args.tree.now).owner c.loop-player.player (length c.args.tree.now.sets), c.players-player-end.ensures.valid.few_sets, c.players-player-end.ensures.valid.few_nodes))

pub overflow_mul-choices : goal.overflow_mul-choices
overflow_mul-choices c = omega (arith, few (goal.at.overflow_mul-choices c).After-sets_of)

pub overflow_add-choices : goal.overflow_add-choices
overflow_add-choices c = omega (arith, few (goal.at.overflow_add-choices c).After-sets_of, c.loop-player.invariant.few)

pub returns-then-choices-gt-MOST_CHOICES-clause-stop : goal.returns-then-choices-gt-MOST_CHOICES-clause-stop
returns-then-choices-gt-MOST_CHOICES-clause-stop c =
    let t = game_of_tree c.args.tree.now in
    let next = choices-step t c.args.counts.now c.loop-player.player c.loop-player.choices (length c.sets_of.result.now) c.requires.counted (omega (arith, ap length c.players-player-end.ensures.players)) c.loop-player.invariant.choices_are (counted (goal.at.returns-then-choices-gt-MOST_CHOICES-clause-stop c).After-sets_of) in
    let many = many-choices t c.args.counts.now (c.loop-player.player + 1) c.requires.counted c.requires.few (subst (λ x. most_choices < x) next c.if-choices-gt-MOST_CHOICES.true) in
    subst (λ stop. Gives stops.Memory (counts_in t) (Err stop)) (sym c.too_many_choices.ensures) (inr many)

pub loop-player-preserved : goal.loop-player-preserved
loop-player-preserved c =
    let t = game_of_tree c.args.tree.now in
    let next = choices-step t c.args.counts.now c.loop-player.player c.loop-player.choices (length c.sets_of.result.now) c.requires.counted (omega (arith, ap length c.players-player-end.ensures.players)) c.loop-player.invariant.choices_are (counted (goal.at.loop-player-preserved c).After-sets_of) in
    record { choices_are = next; few = omega (arith, c.if-choices-gt-MOST_CHOICES.false) }
