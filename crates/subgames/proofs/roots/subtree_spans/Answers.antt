use Rattle.std.proofs.Common.{◌+◌, ◌-◌, ◌<◌, ◌≡◌, ◌∙◌, List, length, max, min, set, sym, ap, ap₂, subst, arith}
use Rattle.std.proofs.lemmas.List.{get_or_default}
use Rattle.game_core.specs.TreeGame.{game_of_tree}
use Rattle.subgames.specs.declared.roots.Span.{Span}
use Rattle.subgames.proofs.SpanLemmas.{AreJoined, AreJoined-start, AreJoined-step, AreJoined-end, span_at}
use Rattle.subgames.proofs.roots.subtree_spans.Goals as goal

pub loop-node-init : goal.loop-node-init
loop-node-init c =
    let g = game_of_tree c.args.tree.now in
    let spans : List Span = c.in_ok-spans.spans.items in
    subst (λ n. AreJoined g n spans spans) (sym (ap length c.nodes-node.ensures.nodes)) (AreJoined-start g c.stands_for_game_tree.ensures.game spans (c.in_ok-spans.ensures {u = tt}).one_for_each)

pub loop-node-preserved : goal.loop-node-preserved
loop-node-preserved c =
    let g = game_of_tree c.args.tree.now in
    let old : List Span = c.in_ok-spans.spans.items in
    let now : List Span = c.loop-node.spans.items in
    let n = c.loop-node.node - 1 in
    let later : 0 < n = omega (arith, c.loop-node-test.true) in
    let next : c.loop-node.node ≡ n + 1 = omega (arith, later) in
    let below : n < g.size = omega (arith, next, c.loop-node.auto.node, ap length c.nodes-node.ensures.nodes) in
    let before = c.stands_for_game_tree.ensures.game.after_parent n later below in
    let many = c.loop-node.invariant.one_for_each in
    let above : span_at now (g.parent n) ≡ c.index.result.now = ap (span_at now) (sym c.parent-above.ensures) ∙ get_or_default now c.parent-above.result _ c.index.result.now (omega (arith, before, below, many, c.parent-above.ensures)) ∙ sym c.index.ensures in
    let here : span_at now n ≡ c.index-in-loop-node.result.now = get_or_default now n _ c.index-in-loop-node.result.now (omega (arith, below, many)) ∙ sym c.index-in-loop-node.ensures in
    subst (λ p. AreJoined g n old (set now p c.joined.result)) (sym c.parent-above.ensures) (AreJoined-step g c.stands_for_game_tree.ensures.game old now n c.joined.result later below (subst (λ m. AreJoined g m old now) next c.loop-node.invariant)
    (c.joined.ensures.least ∙ sym (ap₂ (λ a b. min a.least b.least) above here))
    (c.joined.ensures.greatest ∙ sym (ap₂ (λ a b. max a.greatest b.greatest) above here))
    (c.joined.ensures.last ∙ sym (ap₂ (λ a b. max a.last b.last) above here)))

pub returns : goal.returns
returns c = AreJoined-end (game_of_tree c.args.tree.now) c.stands_for_game_tree.ensures.game c.loop-node.node c.in_ok-spans.spans.items c.loop-node.spans.items c.loop-node-test.false (c.in_ok-spans.ensures {u = tt}) c.loop-node.invariant
