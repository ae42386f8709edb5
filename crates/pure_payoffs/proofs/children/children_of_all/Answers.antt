use Rattle.std.proofs.Common.{◌<◌, ◌≤◌, ap, refl, length, arith}
use Rattle.pure_payoffs.proofs.FilledListLemmas.{filled-all, filled-written, parent-within, branch-within}
use Rattle.pure_payoffs.proofs.children.children_of_all.Goals as goal

pub index_mut-requires : goal.index_mut-requires
index_mut-requires c =
    let inside : c.loop-node.node < length c.args.tree.now.nodes = omega (arith, ap length c.nodes-node-end.ensures.nodes) in
    rw c.loop-node.lists.ok.0 (parent-within (λ v. v.items) _ c.loop-node.node c.parent.result c.loop-node.lists.items c.stands_for_game_tree.ensures.game (omega arith) inside c.loop-node.invariant c.parent.ensures)

pub index_mut-requires-in-loop-node : goal.index_mut-requires-in-loop-node
index_mut-requires-in-loop-node c =
    let inside : c.loop-node.node < length c.args.tree.now.nodes = omega (arith, ap length c.nodes-node-end.ensures.nodes) in
    rw c.index_mut.result.now.ok.0 (branch-within (λ v. v.items) _ c.loop-node.node c.parent.result _ c.loop-node.lists.items c.index_mut.result.now c.stands_for_game_tree.ensures.game (omega arith) inside c.loop-node.invariant c.parent.ensures c.branch-tree.ensures c.index_mut.ensures.value)

pub loop-node-preserved : goal.loop-node-preserved
loop-node-preserved c =
    let inside : c.loop-node.node < length c.args.tree.now.nodes = omega (arith, ap length c.nodes-node-end.ensures.nodes) in
    filled-written (λ v. v.items) _ c.loop-node.node c.parent.result _ c.loop-node.lists.items c.index_mut.result.now c.stands_for_game_tree.ensures.game (omega arith) inside c.loop-node.invariant c.parent.ensures c.branch-tree.ensures c.index_mut.ensures.value _ refl

pub returns : goal.returns
returns c =
    let all : length c.args.tree.now.nodes ≤ c.loop-node.node = omega (arith, ap length c.nodes-node-end.ensures.nodes) in
    record {
      children = filled-all _ c.loop-node.node _ c.stands_for_game_tree.ensures.game all c.loop-node.invariant;
      as_many = c.loop-node.invariant.has_as_many;
    }
