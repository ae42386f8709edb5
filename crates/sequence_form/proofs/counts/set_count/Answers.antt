use Rattle.std.proofs.Common.{ap, length, arith}
use Rattle.game_core.specs.TreeGame.{game_of_tree}
use Rattle.game_theory.proofs.IndexLemmas.{numbers_with-length}
use Rattle.sequence_form.proofs.counts.set_count.Goals as goal

pub returns-clause-few : goal.returns-clause-few
returns-clause-few c =
    let g = game_of_tree c.args.tree.now in
    omega (arith, ap length c.sets_of.ensures, numbers_with-length g.owner c.args.player g.sets, c.stands_for_game_tree.ensures.valid.few_sets, c.stands_for_game_tree.ensures.valid.few_nodes)
