use Rattle.std.proofs.Common.{◌<◌, get_or, subst, arith}
use Rattle.game_core.specs.TreeGame.{game_of_tree}
use Rattle.subgames.specs.CutParts.{GoesOnIn}
use Rattle.subgames.specs.Roots.{IsSubgameRoot}
use Rattle.subgames.proofs.CutListLemmas.{goes-down, goes-root, later-node}
use Rattle.subgames.proofs.cut_nodes.home.Goals as goal

pub returns-then-begins-node : goal.returns-then-begins-node
returns-then-begins-node c =
    goes-root (game_of_tree c.args.tree.now) c.stands_for_game_tree.ensures.game c.args.node c.requires.node ((c.requires.begins.are_all c.args.node c.requires.node).0 c.if-begins-node.true)

pub returns-else-begins-node : goal.returns-else-begins-node
returns-else-begins-node c =
    let g = game_of_tree c.args.tree.now in
    let w = c.stands_for_game_tree.ensures.game in
    let k = c.args.node in
    let p = c.parent.result in
    let other : IsSubgameRoot g k → ⊥ = λ root. cc (c.if-begins-node.false, (c.requires.begins.are_all k c.requires.node).1 root) in
    let before : p < k = omega (arith, c.parent.ensures, w.after_parent k (later-node g k other) c.requires.node) in
    goes-down g w k c.requires.node (get_or c.args.homes.now p 0) other (subst (GoesOnIn g (get_or c.args.homes.now p 0)) c.parent.ensures (c.requires.homes.are p before))
