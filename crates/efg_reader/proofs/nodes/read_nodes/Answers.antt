use Rattle.std.proofs.Common.{◌<◌, length, ◌∙◌, sym, subst}
use Rattle.std.proofs.lemmas.List.{length-map}
use Rattle.std.proofs.lemmas.Result.{err_from_is_err_and}
use Rattle.game_core.specs.TokenList.{bare}
use Rattle.written_trees.specs.Building.{PartialTree}
use Rattle.efg_reader.proofs.NodesLoopLemmas.{IsUnderWay, at_first, goes_on, takes, refuses_all, whole_read, more_after, some_branching}
use Rattle.efg_reader.proofs.nodes.read_nodes.Goals as goal

pub loop-alloc-init : goal.loop-alloc-init
loop-alloc-init c =
    let tokens = bare c.args.tokens.now in
    subst (λ (partial : PartialTree). IsUnderWay c.args.players partial tokens tokens) (sym c.in_ok-builder.ensures) (at_first c.args.players tokens c.requires.short)

pub one_more-requires-clause-free : goal.one_more-requires-clause-free
one_more-requires-clause-free c = some_branching c.loop-alloc.builder (sym c.is_whole.ensures ∙ c.loop-alloc-test.true)

pub one_more-requires-clause-short : goal.one_more-requires-clause-short
one_more-requires-clause-short c = c.loop-alloc.invariant.short

pub returns-in_err-builder-2 : goal.returns-in_err-builder-2
returns-in_err-builder-2 c =
    let p = err_from_is_err_and c.from_residual-in_err-builder-2.result c.from_residual-in_err-builder-2.ensures.1 in
    rw (p.1, p.2) (refuses_all c.in_err-builder-2.field-0.0 c.args.players c.loop-alloc.builder (bare c.loop-alloc.rest.now) (bare c.args.tokens.now) (sym c.is_whole.ensures ∙ c.loop-alloc-test.true) c.in_err-builder-2.ensures c.loop-alloc.invariant)

pub loop-alloc-preserved : goal.loop-alloc-preserved
loop-alloc-preserved c =
    goes_on c.args.players c.loop-alloc.builder c.in_ok-builder-2.field-0-0 (bare c.loop-alloc.rest.now) (bare c.in_ok-builder-2.field-0-1.now) (bare c.args.tokens.now) (sym c.is_whole.ensures ∙ c.loop-alloc-test.true) c.in_ok-builder-2.ensures c.loop-alloc.invariant

pub loop-alloc-smaller : goal.loop-alloc-smaller
loop-alloc-smaller c =
    let shorter : length (bare c.in_ok-builder-2.field-0-1.now) < length (bare c.loop-alloc.rest.now) = takes c.args.players c.loop-alloc.builder c.in_ok-builder-2.field-0-0 (bare c.loop-alloc.rest.now) (bare c.in_ok-builder-2.field-0-1.now) (bare c.args.tokens.now) c.in_ok-builder-2.ensures c.loop-alloc.invariant in
    rw (length-map, length-map) at shorter

pub returns-then-ends : goal.returns-then-ends
returns-then-ends c =
    whole_read c.args.players c.loop-alloc.builder (bare c.args.tokens.now) (bare c.loop-alloc.rest.now) (sym c.is_whole.ensures ∙ c.loop-alloc-test.false) c.loop-alloc.invariant (sym c.ends.ensures ∙ c.if-ends.true)

pub returns-else-ends : goal.returns-else-ends
returns-else-ends c =
    more_after c.args.players c.loop-alloc.builder (bare c.args.tokens.now) (bare c.loop-alloc.rest.now) c.unexpected.result (sym c.is_whole.ensures ∙ c.loop-alloc-test.false) c.loop-alloc.invariant (sym c.ends.ensures ∙ c.if-ends.false) c.unexpected.ensures
