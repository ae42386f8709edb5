use Rattle.std.proofs.Common.{◌++◌, ◌∷◌, [], ◌∙◌, map, get_or, ap, sym, length, arith}
use Rattle.std.proofs.lemmas.List.FromFn.{get_or-map-range_with_len, length-map-range_with_len}
use Rattle.game_core.specs.TreeGame.{game_of_tree}
use Rattle.sequence_form.specs.Paths.{leaf_at}
use Rattle.sequence_form.proofs.PathStepLemmas.{first_leaves, leaves-more, leaves-same}
use Rattle.sequence_form.proofs.paths.leaves.Goals as goal
use Rattle.sequence_form.proofs.paths.leaves.Goals.{then-is_none+in_ok-push, else-is_none}

pub bounds-paths-node : goal.bounds-paths-node
bounds-paths-node c = omega (arith, ap length c.requires, length-map-range_with_len (leaf_at (game_of_tree c.args.tree.now)) 0 (length c.args.tree.now.nodes), ap length c.nodes-nodes.ensures.nodes)

pub loop-node-preserved : goal.loop-node-preserved
loop-node-preserved c =
    let g = game_of_tree c.args.tree.now in
    let n = c.loop-node.node in
    elim c.if-is_none.branch [
      | then-is_none+in_ok-push w ↦ (
          let is = w.index-paths-node.is ∙ ap (λ xs. get_or xs n w.index-paths-node.result) c.requires ∙ get_or-map-range_with_len (leaf_at g) 0 (length c.args.tree.now.nodes) n n w.index-paths-node.result (omega (arith, ap length c.nodes-nodes.ensures.nodes)) (omega arith) in
          ap (λ v. v.items) w.leaves-is ∙ w.in_ok-push.ensures.items ∙ ap (λ xs. xs ++ w.index-paths-node.result ∷ []) c.loop-node.invariant ∙ ap (λ x. map (leaf_at g) (first_leaves g n) ++ x ∷ []) is ∙ sym (leaves-more g n c.set_at.result c.set_at.ensures w.if-is_none.ensures))
      | else-is_none w ↦ ap (λ v. v.items) w.leaves-is ∙ c.loop-node.invariant ∙ sym (leaves-same g n c.set_at.result c.set_at.ensures w.if-is_none.ensures)
    ]
