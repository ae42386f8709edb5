use Rattle.std.proofs.Common.{◌≡◌, ◌+◌, Bool, List, length, sym, ap, subst, arith}
use Rattle.game_core.specs.TreeGame.{game_of_tree}
use Rattle.subgames.proofs.RootLemmas.{AreRootMarksBelow, AreRootMarksBelow-all, AreRootMarksBelow-push}
use Rattle.subgames.proofs.roots.root_marks.Goals as goal

pub loop-node-preserved : goal.loop-node-preserved
loop-node-preserved c =
    let g = game_of_tree c.args.tree.now in
    let n = c.loop-node.node in
    subst (AreRootMarksBelow g (n + 1)) (sym {A = List Bool} (c.in_ok-push.ensures {u = tt}).items) (AreRootMarksBelow-push g n c.loop-node.begins.items c.is_subgame_root.result c.is_subgame_root.ensures c.loop-node.invariant)

pub returns : goal.returns
returns c =
    let g = game_of_tree c.args.tree.now in
    let all : c.loop-node.node ≡ g.size = omega (arith, ap length c.nodes-node-end.ensures.nodes, c.loop-node-test.false) in
    AreRootMarksBelow-all g c.loop-node.begins.items (subst (λ n. AreRootMarksBelow g n c.loop-node.begins.items) all c.loop-node.invariant)
