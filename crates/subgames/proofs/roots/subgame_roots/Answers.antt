use Rattle.std.proofs.Common.{ℕ, ◌<◌, ◌≡◌, ◌∙◌, ◌+◌, List, length, false, subst, sym, ap, arith}
use Rattle.std.proofs.lemmas.List.{get_or_default}
use Rattle.lists.specs.Listed.{AreListed}
use Rattle.lists.proofs.ListedLemmas.{IsPassingBelow, listed_below-push, listed_below-skip}
use Rattle.game_core.specs.TreeGame.{game_of_tree}
use Rattle.subgames.specs.Roots.{IsSubgameRoot}
use Rattle.subgames.proofs.roots.subgame_roots.Goals as goal
use Rattle.subgames.proofs.roots.subgame_roots.Goals.{then-index+in_ok-push, else-index}

pub loop-node-preserved : goal.loop-node-preserved
loop-node-preserved c =
    let P : ℕ → Type 0 = IsSubgameRoot (game_of_tree c.args.tree.now) in
    let n = c.loop-node.node in
    let before : List ℕ = c.loop-node.roots.items in
    let marks = c.in_ok-begins.ensures {u = tt} in
    let below : n < (game_of_tree c.args.tree.now).size = omega (arith, c.loop-node-test.true, ap length c.nodes-node-end.ensures.nodes) in
    let at = get_or_default c.in_ok-begins.begins.items n false c.index.result.now (omega (arith, below, marks.one_for_each)) in
    let read = at ∙ sym c.index.ensures in
    elim c.if-index.branch [
      | then-index+in_ok-push w ↦
          subst (AreListed (IsPassingBelow P (n + 1))) (sym (ap (λ v. v.items) w.roots-is ∙ (w.in_ok-push.ensures {u = tt}).items)) (listed_below-push P n before c.loop-node.invariant ((marks.are_all n below).0 (read ∙ w.if-index.true)))
      | else-index w ↦
          subst (AreListed (IsPassingBelow P (n + 1))) (sym (ap (λ v. v.items) w.roots-is)) (listed_below-skip P n before c.loop-node.invariant (λ p. cc (read ∙ w.if-index.false, (marks.are_all n below).1 p)))
    ]

pub returns : goal.returns
returns c =
    let g = game_of_tree c.args.tree.now in
    let all : c.loop-node.node ≡ g.size = omega (arith, ap length c.nodes-node-end.ensures.nodes, c.loop-node-test.false) in
    subst (λ n. AreListed (IsPassingBelow (IsSubgameRoot g) n) c.loop-node.roots.items) all c.loop-node.invariant
