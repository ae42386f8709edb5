use Rattle.std.proofs.Common.{ℕ, ◌<◌, ◌≡◌, ◌∙◌, List, ap, get_or, length, map, subst, sym, arith}
use Rattle.std.proofs.lemmas.List.{length-map}
use Rattle.game_core.specs.TreeGame.{game_of_tree}
use Rattle.subgames.specs.CutParts.{GoesOnIn, IsAddedToCuts, with_node}
use Rattle.subgames.proofs.CutListLemmas.{cuts-one, cuts-two}
use Rattle.subgames.proofs.cut_nodes.list_node.Goals as goal
use Rattle.subgames.proofs.cut_nodes.list_node.Goals.{else-node-ne0-via-then-node-ne0+else-begins-node, else-node-ne0-via-else-node-ne0}

pub returns-in_ok-list_in-2 : goal.returns-in_ok-list_in-2
returns-in_ok-list_in-2 c =
    let g = game_of_tree c.args.tree.now in
    let w = c.stands_for_game_tree.ensures.game in
    let k = c.args.node in
    let homes : List ℕ = c.args.homes.now in
    let p = c.parent.result in
    let root = (c.requires.begins.are_all k c.requires.node).0 c.if-begins-node.true in
    let later : 0 < k = omega (arith, c.if-node-ne0.true) in
    let before : p < k = omega (arith, c.parent.ensures, w.after_parent k later c.requires.node) in
    let up = subst (GoesOnIn g (get_or homes p 0)) c.parent.ensures (c.requires.homes.are p (omega (arith, before, c.requires.node))) in
    let cuts = map (λ v. v.items) c.args.cuts.now.items in
    let many : length cuts ≡ g.size = length-map c.args.cuts.now.items (λ v. v.items) ∙ c.requires.cuts in
    subst (IsAddedToCuts g k cuts) (sym (c.in_ok-list_in-2.ensures {u = tt} ∙ ap (λ lists. with_node lists (get_or homes p 0) k) (c.in_ok-list_in.ensures {u = tt})))
    (cuts-two g w k c.requires.node cuts many (get_or homes k 0) (c.requires.homes.are k c.requires.node) (get_or homes p 0) later root up)

pub returns-else-node-ne0 : goal.returns-else-node-ne0
returns-else-node-ne0 c =
    let g = game_of_tree c.args.tree.now in
    let k = c.args.node in
    let homes : List ℕ = c.args.homes.now in
    let cuts = map (λ v. v.items) c.args.cuts.now.items in
    let many : length cuts ≡ g.size = length-map c.args.cuts.now.items (λ v. v.items) ∙ c.requires.cuts in
    subst (IsAddedToCuts g k cuts) (sym (c.in_ok-list_in.ensures {u = tt}))
    (cuts-one g c.stands_for_game_tree.ensures.game k c.requires.node cuts many (get_or homes k 0) (c.requires.homes.are k c.requires.node) (λ later root. elim c.else-node-ne0.branch [
      | else-node-ne0-via-then-node-ne0+else-begins-node w ↦ cc (w.if-begins-node.false, (c.requires.begins.are_all k c.requires.node).1 root)
      | else-node-ne0-via-else-node-ne0 w ↦ absurd (omega (arith, later, w.if-node-ne0.false))
    ]))
