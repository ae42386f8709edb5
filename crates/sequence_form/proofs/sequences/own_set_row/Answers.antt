use Rattle.std.proofs.Common.{arith}
use Rattle.game_core.specs.TreeGame.{game_of_tree}
use Rattle.sequence_form.proofs.NumberingLemmas.{actions-cast, first-at, firsts-length, same_row, sequence-is}
use Rattle.sequence_form.proofs.sequences.own_set_row.Goals as goal

pub bounds-firsts-set : goal.bounds-firsts-set
bounds-firsts-set c = omega (arith, firsts-length (game_of_tree c.args.tree.now) c.args.player c.args.firsts.now c.requires.firsts, c.requires.set)

pub overflow_cast-result : goal.overflow_cast-result
overflow_cast-result c =
    let few = actions-cast c.args.tree.now c.args.set c.action_count.result c.stands_for_game_tree.ensures.valid c.requires.set c.action_count.ensures in
    omega (arith, few)

pub returns : goal.returns
returns c =
    let g = game_of_tree c.args.tree.now in
    let first = first-at g c.args.player c.args.firsts.now c.args.set c.requires.firsts (omega (arith, c.requires.set)) in
    let here = sequence-is g c.args.player c.args.set 0 c.stands_for_game_tree.ensures.game c.requires.set c.requires.own in
    same_row _ _ _ _ _ _ c.sequence_before.ensures (omega (arith, first, here)) c.action_count.ensures
