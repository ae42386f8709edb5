use Rattle.std.proofs.Common.{◌∙◌, ap, sym, arith, [], ◌∷◌, ◌++◌, map}
use Rattle.std.specs.List.{range_with_len}
use Rattle.std.proofs.lemmas.List.FromFn.{map-range_with_len_more}
use Rattle.game_core.specs.TreeGame.{game_of_tree}
use Rattle.perfect_recall.specs.Found.{edge_before}
use Rattle.perfect_recall.proofs.find.edges_before_sets.Goals as goal

pub loop-number-preserved : goal.loop-number-preserved
loop-number-preserved c =
    let g = game_of_tree c.args.tree.now in
    let more = map-range_with_len_more (λ s. edge_before g s (g.owner s)) 0 c.loop-number.number c.loop-number.number (omega arith) in
    c.in_ok-push.ensures.items ∙ ap (λ xs. xs ++ c.edge_before_set.result ∷ []) c.loop-number.invariant ∙ ap (λ x. map (λ s. edge_before g s (g.owner s)) (range_with_len 0 c.loop-number.number) ++ x ∷ []) c.edge_before_set.ensures ∙ sym more
