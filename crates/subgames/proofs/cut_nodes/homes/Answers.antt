use Rattle.std.proofs.Common.{ℕ, ◌≡◌, ◌+◌, List, length, sym, ap, subst, arith}
use Rattle.game_core.specs.TreeGame.{game_of_tree}
use Rattle.subgames.specs.CutParts.{AreHomesBefore}
use Rattle.subgames.proofs.CutListLemmas.{homes-push}
use Rattle.subgames.proofs.cut_nodes.homes.Goals as goal

pub home-next-requires-clause-homes : goal.home-next-requires-clause-homes
home-next-requires-clause-homes c = subst (AreHomesBefore (game_of_tree c.args.tree.now) c.loop-node.node) (sym c.deref.ensures.value) c.loop-node.invariant

pub loop-node-preserved : goal.loop-node-preserved
loop-node-preserved c =
    let g = game_of_tree c.args.tree.now in
    let k = c.loop-node.node in
    subst (AreHomesBefore g (k + 1)) (sym {A = List ℕ} (c.in_ok-push.ensures {u = tt}).items) (homes-push g k c.home-next.result c.loop-node.homes.items c.home-next.ensures c.loop-node.invariant)

pub returns : goal.returns
returns c =
    let g = game_of_tree c.args.tree.now in
    let all : c.loop-node.node ≡ g.size = omega (arith, ap length c.nodes-node-end.ensures.nodes, c.loop-node-test.false) in
    subst (λ n. AreHomesBefore g n c.loop-node.homes.items) all c.loop-node.invariant
