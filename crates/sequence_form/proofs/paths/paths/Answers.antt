use Rattle.std.proofs.Common.{◌++◌, ◌∷◌, [], ◌∙◌, inr, map, get_or, ap, sym, length, arith}
use Rattle.std.specs.List.{range_with_len}
use Rattle.std.proofs.lemmas.List.FromFn.{get_or-map-range_with_len, length-map-range_with_len, map-range_with_len_more}
use Rattle.std.proofs.lemmas.Result.{err_from_is_err_and}
use Rattle.game_core.specs.TreeGame.{game_of_tree}
use Rattle.sequence_form.specs.Paths.{leaf_at}
use Rattle.sequence_form.proofs.PathStepLemmas.{path-all, path-fit, path-stop}
use Rattle.sequence_form.proofs.paths.paths.Goals as goal

pub index-above-requires : goal.index-above-requires
index-above-requires c =
    let g = game_of_tree c.args.tree.now in
    let before = c.stands_for_game_tree.ensures.game.after_parent c.loop-node.node (omega arith) (omega (arith, ap length c.nodes-nodes.ensures.nodes)) in
    let long = ap length c.loop-node.invariant.are ∙ length-map-range_with_len (leaf_at g) 0 c.loop-node.node in
    omega (arith, before, c.parent.ensures, long)

pub next_path-requires-clause-above : goal.next_path-requires-clause-above
next_path-requires-clause-above c =
    let g = game_of_tree c.args.tree.now in
    let before = c.stands_for_game_tree.ensures.game.after_parent c.loop-node.node (omega arith) (omega (arith, ap length c.nodes-nodes.ensures.nodes)) in
    c.index-above.ensures ∙ ap (λ xs. get_or xs c.parent.result c.index-above.result.now) c.loop-node.invariant.are
    ∙ get_or-map-range_with_len (leaf_at g) 0 c.loop-node.node c.parent.result c.parent.result c.index-above.result.now (omega (arith, before, c.parent.ensures)) (omega arith) ∙ ap (leaf_at g) c.parent.ensures

pub returns-in_err-next_path-clause-steps : goal.returns-in_err-next_path-clause-steps
returns-in_err-next_path-clause-steps c =
    let g = game_of_tree c.args.tree.now in
    let p = err_from_is_err_and c.from_residual-in_err-next_path.result c.from_residual-in_err-next_path.ensures.1 in
    rw (p.1, p.2) (inr (path-stop g c.loop-node.node (omega (arith, ap length c.nodes-nodes.ensures.nodes)) c.loop-node.invariant.fit (omega arith) c.in_err-next_path.field-0.0 c.in_err-next_path.ensures.steps))

pub loop-node-preserved : goal.loop-node-preserved
loop-node-preserved c =
    let g = game_of_tree c.args.tree.now in
    let more = map-range_with_len_more (leaf_at g) 0 c.loop-node.node c.loop-node.node (omega arith) in
    record {
      are = c.in_ok-push-2.ensures.items ∙ ap (λ xs. xs ++ c.in_ok-next_path.field-0 ∷ []) c.loop-node.invariant.are ∙ ap (λ x. map (leaf_at g) (range_with_len 0 c.loop-node.node) ++ x ∷ []) c.in_ok-next_path.ensures.value ∙ sym more;
      fit = path-fit g c.loop-node.node (omega (arith, ap length c.nodes-nodes.ensures.nodes)) c.loop-node.invariant.fit (omega arith) c.in_ok-next_path.ensures.steps;
    }

pub returns-clause-steps : goal.returns-clause-steps
returns-clause-steps c = path-all (game_of_tree c.args.tree.now) c.loop-node.node (omega (arith, ap length c.nodes-nodes.ensures.nodes)) c.loop-node.invariant.fit
