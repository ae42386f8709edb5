use Rattle.std.proofs.Common.{◌≡◌, ◌∙◌, ◌∷◌, ◌++◌, [], length, map, ap, ap₂, sym, arith}
use Rattle.std.specs.List.{range_with_len}
use Rattle.std.proofs.lemmas.List.FromFn.{map-range_with_len_more}
use Rattle.game_core.specs.TreeGame.{game_of_tree}
use Rattle.subgames.specs.CutParts.{cut_node}
use Rattle.subgames.proofs.cut_parts.made_nodes.Goals as goal

pub loop-number-init : goal.loop-number-init
loop-number-init c = λ indices are. c.in_ok-made.ensures.items

pub loop-number-preserved : goal.loop-number-preserved
loop-number-preserved c = λ indices are.
    let k = c.loop-number.number in
    c.in_ok-push.ensures.items ∙ ap₂ (λ v x. v ++ x ∷ []) (c.loop-number.invariant indices are) (c.cut_node-node.ensures indices are)
    ∙ sym (map-range_with_len_more (cut_node (game_of_tree c.args.tree.now) c.args.nodes.now indices c.args.sets.now c.args.names.now) 0 k k (omega arith))

pub returns : goal.returns
returns c = λ indices are.
    let all : c.loop-number.number ≡ length c.args.nodes.now = omega (arith, c.loop-number-test.false) in
    c.loop-number.invariant indices are ∙ ap (λ m. map (cut_node (game_of_tree c.args.tree.now) c.args.nodes.now indices c.args.sets.now c.args.names.now) (range_with_len 0 m)) all
