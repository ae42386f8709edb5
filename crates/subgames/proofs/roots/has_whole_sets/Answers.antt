use Rattle.std.proofs.Common.{arith}
use Rattle.std.proofs.lemmas.Bool.{le-leb, leb-true}
use Rattle.std.proofs.lemmas.Option.{slice_get-get_or}
use Rattle.subgames.specs.declared.roots.Span.{Span}
use Rattle.subgames.proofs.SpanLemmas.{span_at, whole-by_span}
use Rattle.subgames.proofs.roots.has_whole_sets.Goals as goal

pub returns-then-span-node : goal.returns-then-span-node
returns-then-span-node c =
    let k = c.args.node in
    let span : Span = span_at c.args.spans.now k in
    let found = c.requires.spans.are k span (slice_get-get_or c.args.spans.now k _ (omega (arith, c.requires.node, c.requires.spans.one_for_each))) in
    let told = whole-by_span c.args.tree.now k span c.stands_for_game_tree.ensures.valid c.stands_for_game_tree.ensures.game found in
    (λ e. told.0 (c.if-span-node.true, leb-true span.greatest span.last e), λ whole. le-leb span.greatest span.last (told.1 whole).1)

pub returns-else-span-node : goal.returns-else-span-node
returns-else-span-node c =
    let k = c.args.node in
    let span : Span = span_at c.args.spans.now k in
    let found = c.requires.spans.are k span (slice_get-get_or c.args.spans.now k _ (omega (arith, c.requires.node, c.requires.spans.one_for_each))) in
    let told = whole-by_span c.args.tree.now k span c.stands_for_game_tree.ensures.valid c.stands_for_game_tree.ensures.game found in
    (λ e. absurd (omega (arith, c.if-span-node.false, leb-true k span.least e)), λ whole. le-leb k span.least (told.1 whole).0)
