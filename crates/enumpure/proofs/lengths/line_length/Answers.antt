use Rattle.std.proofs.Common.{◌+◌, ◌*◌, get_or, sym, ap, ◌∙◌, arith}
use Rattle.std.proofs.lemmas.List.Sums.{sum_by_more}
use Rattle.enumpure.proofs.LineLengthLemmas.{HaveStrategies-all, all_counted, few_bytes, few_strategies, length-line_none, length-line_text}
use Rattle.enumpure.proofs.lengths.line_length.Goals as goal

pub overflow_add-strategies : goal.overflow_add-strategies
overflow_add-strategies c =
    let counts = c.args.counts.now in
    let i = c.loop-count.count-index in
    omega (arith, few_strategies counts _ (i + 1) c.requires.some c.requires.players c.requires.few (ap (λ v. v + get_or counts i 0) c.loop-count.invariant ∙ sym (sum_by_more (λ n. n) counts i 0 c.loop-count-test.true)))

pub loop-count-preserved : goal.loop-count-preserved
loop-count-preserved c =
    let counts = c.args.counts.now in
    let i = c.loop-count.count-index in
    ap (λ v. v + get_or counts i 0) c.loop-count.invariant ∙ sym (sum_by_more (λ n. n) counts i 0 c.loop-count-test.true)

pub overflow_mul-result : goal.overflow_mul-result
overflow_mul-result c =
    omega (arith, few_strategies c.args.counts.now c.loop-count.strategies c.loop-count.count-index c.requires.some c.requires.players c.requires.few c.loop-count.invariant)

pub overflow_add-result : goal.overflow_add-result
overflow_add-result c =
    omega (arith, few_strategies c.args.counts.now c.loop-count.strategies c.loop-count.count-index c.requires.some c.requires.players c.requires.few c.loop-count.invariant)

pub returns-then-strategies-eq0-clause-each : goal.returns-then-strategies-eq0-clause-each
returns-then-strategies-eq0-clause-each c =
    let counts = c.args.counts.now in
    let all = all_counted counts c.loop-count.strategies c.loop-count.count-index c.loop-count-test.false c.loop-count.invariant in
    λ profile. length-line_none counts profile (HaveStrategies-all counts c.requires.some) (sym all ∙ c.if-strategies-eq0.true)

pub returns-then-strategies-eq0-clause-fits : goal.returns-then-strategies-eq0-clause-fits
returns-then-strategies-eq0-clause-fits c = few_bytes _ 4 c.requires.few (omega arith)

pub returns-else-strategies-eq0-clause-each : goal.returns-else-strategies-eq0-clause-each
returns-else-strategies-eq0-clause-each c =
    let counts = c.args.counts.now in
    let all = all_counted counts c.loop-count.strategies c.loop-count.count-index c.loop-count-test.false c.loop-count.invariant in
    λ profile. length-line_text counts profile (HaveStrategies-all counts c.requires.some) (λ z. c.if-strategies-eq0.false (all ∙ z)) ∙ ap (λ v. 3 + 2 * v) (sym all)

pub returns-else-strategies-eq0-clause-fits : goal.returns-else-strategies-eq0-clause-fits
returns-else-strategies-eq0-clause-fits c =
    few_bytes _ (3 + 2 * c.loop-count.strategies) c.requires.few (omega (arith, few_strategies c.args.counts.now c.loop-count.strategies c.loop-count.count-index c.requires.some c.requires.players c.requires.few c.loop-count.invariant))
