use Rattle.std.proofs.Common.{◌+◌, List, sym, subst}
use Rattle.game_core.specs.TreeGame.{game_of_tree}
use Rattle.subgames.specs.Spans.{AreOwnSpans}
use Rattle.subgames.specs.declared.roots.Span.{Span}
use Rattle.subgames.proofs.SpanLemmas.{AreOwnSpans-push}
use Rattle.subgames.proofs.roots.own_spans.Goals as goal

pub loop-node-preserved : goal.loop-node-preserved
loop-node-preserved c =
    let g = game_of_tree c.args.tree.now in
    let n = c.loop-node.node in
    subst (AreOwnSpans g (n + 1)) (sym {A = List Span} (c.in_ok-push.ensures {u = tt}).items) (AreOwnSpans-push g n c.loop-node.spans.items c.own_span.result c.own_span.ensures c.loop-node.invariant)
