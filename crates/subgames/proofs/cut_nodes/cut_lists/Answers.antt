use Rattle.std.proofs.Common.{◌≡◌, ap, length, map, subst, arith}
use Rattle.std.proofs.lemmas.List.{length-map}
use Rattle.game_core.specs.TreeGame.{game_of_tree}
use Rattle.subgames.proofs.CutListLemmas.{ListCutsBefore, cuts-all, cuts-next}
use Rattle.subgames.proofs.cut_nodes.cut_lists.Goals as goal

pub list_node-requires-clause-cuts : goal.list_node-requires-clause-cuts
list_node-requires-clause-cuts c = omega (arith, c.loop-node.invariant.one_for_each, length-map c.loop-node.cuts.items (λ v. v.items))

pub loop-node-preserved : goal.loop-node-preserved
loop-node-preserved c =
    cuts-next (game_of_tree c.args.tree.now) c.loop-node.node (map (λ v. v.items) c.loop-node.cuts.items) _ (c.in_ok-list_node.ensures {u = tt}) c.loop-node.invariant

pub returns : goal.returns
returns c =
    let g = game_of_tree c.args.tree.now in
    let all : c.loop-node.node ≡ g.size = omega (arith, ap length c.nodes-node-end.ensures.nodes, c.loop-node-test.false) in
    cuts-all g _ (subst (λ n. ListCutsBefore g n (map (λ v. v.items) c.loop-node.cuts.items)) all c.loop-node.invariant)
