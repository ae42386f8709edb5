use Rattle.std.proofs.Common.{sym, subst}
use Rattle.std.proofs.lemmas.Result.{IfOk-weaker}
use Rattle.game_core.specs.TreeGame.{game_of_tree}
use Rattle.enumpure_trees.specs.TestNodes.{AreTestNodes}
use Rattle.enumpure_trees.proofs.test_nodes.test_nodes.Goals as goal

pub returns-then-perfect : goal.returns-then-perfect
returns-then-perfect c =
    let t = game_of_tree c.args.tree.now in
    IfOk-weaker c.subgame_roots.result _ _ (λ nodes h. subst (λ perfect. AreTestNodes perfect t nodes.items) (sym c.if-perfect.true) h) c.subgame_roots.ensures
