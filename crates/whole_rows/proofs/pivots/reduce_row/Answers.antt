use Rattle.std.proofs.Common.{◌∙◌, ap, nat_abs, subst, sym, to_z, ◌*ℤ◌}
use Rattle.std.specs.Int.{w128, ◌∣◌}
use Rattle.std.proofs.lemmas.Int.{to_z-of_z}
use Rattle.whole_rows.specs.Rows.{from_place}
use Rattle.whole_rows.proofs.RowValueLemmas.{reduced, reduced_already}
use Rattle.whole_rows.proofs.pivots.reduce_row.Goals as goal

pub divide_row-requires-clause-divides : goal.divide_row-requires-clause-divides
divide_row-requires-clause-divides c p h = subst (λ z. nat_abs z ∣ nat_abs (from_place c.args.numbers.now c.args.own p)) (sym (to_z-of_z w128 c.row_divisor-common.result (record { sfits = c.row_divisor-common.type_inv }))) (c.row_divisor-common.ensures.divisor.divides p h)

pub returns-then-common-ne1-clause-reduced : goal.returns-then-common-ne1-clause-reduced
returns-then-common-ne1-clause-reduced c =
    reduced c.args.size (from_place c.args.numbers.now c.args.own) (from_place c.divide_row.new.numbers c.args.own) c.row_divisor-common.result c.requires.some c.row_divisor-common.ensures.positive c.requires.positive c.row_divisor-common.ensures.divisor
    (λ p h. ap (λ z. from_place c.divide_row.new.numbers c.args.own p *ℤ z) (sym (to_z-of_z w128 c.row_divisor-common.result (record { sfits = c.row_divisor-common.type_inv }))) ∙ c.divide_row.ensures.divided p h) c.divide_row.ensures.fit

pub returns-else-common-ne1-clause-reduced : goal.returns-else-common-ne1-clause-reduced
returns-else-common-ne1-clause-reduced c =
    reduced_already c.args.size (from_place c.args.numbers.now c.args.own) c.row_divisor-common.result c.requires.positive c.requires.fit c.row_divisor-common.ensures.divisor
    (sym (to_z-of_z w128 c.row_divisor-common.result (record { sfits = c.row_divisor-common.type_inv })) ∙ ap (to_z w128) c.if-common-ne1.false)
