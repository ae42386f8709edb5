use Rattle.std.proofs.Common.{arith}
use Rattle.sequence_form.proofs.NumberingLemmas.{actions-cast}
use Rattle.sequence_form.proofs.sequences.sequence_count_of.Goals as goal

pub overflow_cast-result : goal.overflow_cast-result
overflow_cast-result c =
    let few = actions-cast c.args.tree.now c.args.set c.action_count.result c.stands_for_game_tree.ensures.valid c.requires c.action_count.ensures in
    omega (arith, few)

pub returns-then-is_own-clause-few : goal.returns-then-is_own-clause-few
returns-then-is_own-clause-few c = actions-cast c.args.tree.now c.args.set c.action_count.result c.stands_for_game_tree.ensures.valid c.requires c.action_count.ensures
