use Rattle.std.proofs.Common.{◌≡◌, ◌+◌, ◌∙◌, ap, length, arith}
use Rattle.game_core.specs.TreeGame.{game_of_tree}
use Rattle.sequence_form.specs.Sequences.{next_sequence}
use Rattle.sequence_form.proofs.NumberingLemmas.{next-few, next-push}
use Rattle.sequence_form.proofs.counts.sequence_count.Goals as goal

pub overflow_add-count : goal.overflow_add-count
overflow_add-count c =
    let g = game_of_tree c.args.tree.now in
    let more = next-push g c.args.player c.loop-set.set (omega (arith, ap length c.sets-set-end.ensures.sets)) in
    let few = next-few c.args.tree.now c.args.player (c.loop-set.set + 1) c.stands_for_game_tree.ensures.valid (omega (arith, ap length c.sets-set-end.ensures.sets)) in
    omega (arith, more, few, c.loop-set.invariant, c.sequence_count_of.ensures.value)

pub loop-set-preserved : goal.loop-set-preserved
loop-set-preserved c =
    let more = next-push (game_of_tree c.args.tree.now) c.args.player c.loop-set.set (omega (arith, ap length c.sets-set-end.ensures.sets)) in
    omega (arith, more, c.loop-set.invariant, c.sequence_count_of.ensures.value)

pub returns-clause-value : goal.returns-clause-value
returns-clause-value c =
    let g = game_of_tree c.args.tree.now in
    let whole : c.loop-set.set ≡ length c.args.tree.now.sets = omega (arith, ap length c.sets-set-end.ensures.sets) in
    c.loop-set.invariant ∙ ap (next_sequence g c.args.player) whole

pub returns-clause-few : goal.returns-clause-few
returns-clause-few c =
    let whole : c.loop-set.set ≡ length c.args.tree.now.sets = omega (arith, ap length c.sets-set-end.ensures.sets) in
    let few = next-few c.args.tree.now c.args.player c.loop-set.set c.stands_for_game_tree.ensures.valid (omega (arith, whole)) in
    omega (arith, few, c.loop-set.invariant)
