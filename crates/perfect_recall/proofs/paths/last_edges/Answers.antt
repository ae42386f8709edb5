use Rattle.std.proofs.Common.{◌+◌, ◌<◌, ◌∙◌, None, ap, subst, sym, length, get_or, arith}
use Rattle.std.proofs.lemmas.List.{length_push}
use Rattle.game_core.specs.TreeGame.{game_of_tree}
use Rattle.game_core.specs.LastMoves.{IsMoveBefore}
use Rattle.perfect_recall.specs.LastEdges.{AreLastEdges, IsEdgeBefore}
use Rattle.perfect_recall.proofs.LastEdgeLemmas.{AreLastEdges-push, edge-before}
use Rattle.perfect_recall.proofs.paths.last_edges.Goals as goal

pub loop-last-preserved : goal.loop-last-preserved
loop-last-preserved c =
    let g = game_of_tree c.args.tree.now in
    let k = c.loop-last.last-index in
    let inside : k < length c.in_ok-moves.moves.items = omega (arith, c.loop-last-test.true, ap length c.as_slice-list.ensures.value) in
    let found : IsMoveBefore g k (get_or c.as_slice-list.result.now k None) = subst (λ list. IsMoveBefore g k (get_or list k None)) (sym c.as_slice-list.ensures.value) (c.in_ok-moves.ensures.moves k inside) in
    let edge : IsEdgeBefore g k c.edge_of.result = subst (IsEdgeBefore g k) (sym c.edge_of.ensures) (edge-before g k _ found) in
    let more = AreLastEdges-push g c.loop-last.edges.items c.edge_of.result c.loop-last.invariant.are_edges (subst (λ n. IsEdgeBefore g n c.edge_of.result) (sym c.loop-last.invariant.one_for_each) edge) in
    record {
      one_for_each = ap length c.in_ok-push.ensures.items ∙ length_push c.loop-last.edges.items c.edge_of.result ∙ ap (λ n. n + 1) c.loop-last.invariant.one_for_each;
      are_edges = subst (AreLastEdges g) (sym c.in_ok-push.ensures.items) more;
    }
