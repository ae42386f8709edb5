use Rattle.std.proofs.Common.{◌∙◌, ◌+◌, length}
use Rattle.lemke_pivot.specs.Systems.{costs_at}
use Rattle.lemke_pivot.proofs.BlockLemmas.{less_p, less_q}
use Rattle.lemke_pivot.proofs.PathStartLemmas.{prices_are}
use Rattle.lemke_pivot.proofs.matrix.SideCosts.matrix_entry.Goals as goal

pub returns-then-row-prices-2 : goal.returns-then-row-prices-2
returns-then-row-prices-2 c =
    less_p (costs_at c.args.self.now) c.sequences-rows.result c.sequences-columns.result (length c.sets.result.now + 1) (length c.sets-2.result.now + 1) c.args.row c.args.column
    (c.sequences-rows.ensures ∙ c.requires.costs.first_side.sequences_are) (c.sequences-columns.ensures ∙ c.requires.costs.second_side.sequences_are) (prices_are c.args.self.now.first.now c.sets.result.now c.sets.ensures) (prices_are c.args.self.now.second.now c.sets-2.result.now c.sets-2.ensures)
    c.if-row-rows.false c.if-row-columns.false c.if-row-prices.false c.neg.result c.first_price_entry-then-row-prices-2.result c.neg.ensures c.if-row-prices-2.true c.first_price_entry-then-row-prices-2.ensures

pub returns : goal.returns
returns c =
    less_q (costs_at c.args.self.now) c.sequences-rows.result c.sequences-columns.result (length c.sets.result.now + 1) (length c.sets-2.result.now + 1) c.args.row c.args.column
    (c.sequences-rows.ensures ∙ c.requires.costs.first_side.sequences_are) (c.sequences-columns.ensures ∙ c.requires.costs.second_side.sequences_are) (prices_are c.args.self.now.first.now c.sets.result.now c.sets.ensures) (prices_are c.args.self.now.second.now c.sets-2.result.now c.sets-2.ensures)
    c.if-row-rows.false c.if-row-columns.false c.if-row-prices.false c.neg-2.result c.second_price_entry-2.result c.neg-2.ensures c.if-row-prices-2.false c.if-row-others.false c.second_price_entry-2.ensures
