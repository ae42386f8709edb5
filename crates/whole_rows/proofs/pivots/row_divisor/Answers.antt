use Rattle.std.proofs.Common.{◌<◌, ◌^◌, ap, pos, nat_abs, subst, sym}
use Rattle.std.specs.Int.{w128}
use Rattle.std.proofs.lemmas.Int.{fits_signed_from_abs}
use Rattle.whole_rows.specs.Rows.{from_place, IsGreatestDivisor}
use Rattle.whole_rows.proofs.RowValueLemmas.{divisor_small, row_size, stored, stored_pos}
use Rattle.whole_rows.proofs.pivots.row_divisor.Goals as goal

small : (c : goal.After-common_divisor) → c.common_divisor.result < 2 ^ 127
small c = divisor_small c.common_divisor.result (nat_abs (from_place c.args.numbers.now c.args.own 0)) (row_size (from_place c.args.numbers.now c.args.own) c.requires.positive) (c.common_divisor.ensures.divides 0 c.requires.some) (c.requires.fit 0 c.requires.some)

pub overflow_cast-result : goal.overflow_cast-result
overflow_cast-result c = fits_signed_from_abs w128 (pos c.common_divisor.result) (small c)

pub returns-clause-positive : goal.returns-clause-positive
returns-clause-positive c = stored_pos c.common_divisor.result c.common_divisor.ensures.positive (small c)

pub returns-clause-divisor : goal.returns-clause-divisor
returns-clause-divisor c = subst (IsGreatestDivisor (from_place c.args.numbers.now c.args.own) c.args.size) (sym (ap nat_abs (stored c.common_divisor.result (small c)))) c.common_divisor.ensures
