use Rattle.std.proofs.Common.{◌∙◌, min, ap}
use Rattle.strategy_lists.proofs.WayCountLemmas.{sum-next}
use Rattle.strategy_lists.proofs.count.sum.Goals as goal

pub loop-number-preserved : goal.loop-number-preserved
loop-number-preserved c =
    c.min-sum.ensures ∙ ap (λ v. min v c.args.limit) c.saturating_add.ensures
    ∙ sum-next c.args.numbers.now c.loop-number.number-index c.loop-number.sum c.args.limit c.ranges.limit.fits c.loop-number-test.true c.loop-number.invariant
