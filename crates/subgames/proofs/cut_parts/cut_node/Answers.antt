use Rattle.std.proofs.Common.{ℕ, ◌≡◌, ◌<◌, ◌∙◌, List, None, Some, ap, cond, get_or, length, false, subst, sym, arith}
use Rattle.std.specs.Prelude.{◌==◌}
use Rattle.lists.proofs.NumberLemmas.{unequal}
use Rattle.game_core.specs.TreeGame.{game_of_tree}
use Rattle.lists.specs.Listed.{IsIndexOf}
use Rattle.lists.proofs.ListedLemmas.{index-once}
use Rattle.subgames.proofs.cut_parts.cut_node.Goals as goal

pub returns : goal.returns
returns c = λ indices are.
    let g = game_of_tree c.args.tree.now in
    let j = c.args.number in
    let nodes : List ℕ = c.args.nodes.now in
    let k = get_or nodes j 0 in
    let other : (j == 0) ≡ false = unequal j 0 c.if-number-eq0.false in
    let inside : g.parent k < length c.args.tree.now.nodes = omega (arith, c.node_before.ensures.is, c.node_before.ensures.within) in
    let found = subst (λ p. IsIndexOf nodes p c.index_among-parent.result) c.node_before.ensures.is c.index_among-parent.ensures in
    let parents = index-once nodes (g.parent k) c.index_among-parent.result (get_or indices (g.parent k) None) c.requires.ascending found (are.are (g.parent k) inside)
    ∙ sym (ap (λ b. cond b None (get_or indices (g.parent k) None)) other) in
    let branches = c.branch-tree.ensures ∙ sym (ap (λ b. cond b 0 (g.branch k)) other) in
    let kinds = c.named_kind-kind.ensures in
    λ p. record { kind = kinds p; parent = parents p; branch = branches p; set = get_or c.args.names.now j None; outcome = Some j }
