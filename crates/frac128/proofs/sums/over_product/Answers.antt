use Rattle.std.proofs.Common.{arith, sym, ap, ◌∙◌, ◌*◌, ◌<◌, subst, int_lt, pos}
use Rattle.rational.specs.Rational.{frac}
use Rattle.rational.specs.Gcd.{gcd}
use Rattle.frac128.specs.Fraction.{with_sign}
use Rattle.frac128.proofs.PartLemmas.{kept, num_kept}
use Rattle.frac128.proofs.ReductionLemmas.{common_pos, answer_at, none_at}
use Rattle.frac128.proofs.SumSizeLemmas.{over_positive, over_lowest, over_read, over_wide}
use Rattle.frac128.proofs.sums.over_product.Goals as goal

pub divided-lowest_top-requires : goal.divided-lowest_top-requires
divided-lowest_top-requires c = common_pos c.unsigned_abs-size.result c.args.common c.gcd-shared.result c.requires.common_positive c.gcd-shared.ensures

pub divided-rest-requires : goal.divided-rest-requires
divided-rest-requires c = common_pos c.unsigned_abs-size.result c.args.common c.gcd-shared.result c.requires.common_positive c.gcd-shared.ensures

pub returns-in_err-bottom : goal.returns-in_err-bottom
returns-in_err-bottom c = none_at c.from_residual.result (frac c.args.top (c.args.own * (c.args.others * c.args.common))) c.from_residual.ensures (over_wide c.args.top c.unsigned_abs-size.result c.args.own c.args.others c.args.common c.gcd-shared.result c.divided-lowest_top.result c.divided-rest.result (record { own_positive = c.requires.own_positive; others_positive = c.requires.others_positive; common_positive = c.requires.common_positive; own_apart = c.requires.own_apart; others_apart = c.requires.others_apart; size_is = num_kept c.args.top c.unsigned_abs-size.result c.ranges.top c.unsigned_abs-size.ensures.value; shared_is = c.gcd-shared.ensures; top_is = c.divided-lowest_top.ensures; rest_is = c.divided-rest.ensures }) (omega (arith, c.in_err-bottom.ensures)))

pub from_sizes-requires-clause-positive : goal.from_sizes-requires-clause-positive
from_sizes-requires-clause-positive c = subst (λ n. 0 < n) (sym c.in_ok-bottom.ensures.1) (over_positive c.args.top c.unsigned_abs-size.result c.args.own c.args.others c.args.common c.gcd-shared.result c.divided-lowest_top.result c.divided-rest.result (record { own_positive = c.requires.own_positive; others_positive = c.requires.others_positive; common_positive = c.requires.common_positive; own_apart = c.requires.own_apart; others_apart = c.requires.others_apart; size_is = num_kept c.args.top c.unsigned_abs-size.result c.ranges.top c.unsigned_abs-size.ensures.value; shared_is = c.gcd-shared.ensures; top_is = c.divided-lowest_top.ensures; rest_is = c.divided-rest.ensures }))

pub from_sizes-requires-clause-lowest : goal.from_sizes-requires-clause-lowest
from_sizes-requires-clause-lowest c = ap (gcd c.divided-lowest_top.result) c.in_ok-bottom.ensures.1 ∙ over_lowest c.args.top c.unsigned_abs-size.result c.args.own c.args.others c.args.common c.gcd-shared.result c.divided-lowest_top.result c.divided-rest.result (record { own_positive = c.requires.own_positive; others_positive = c.requires.others_positive; common_positive = c.requires.common_positive; own_apart = c.requires.own_apart; others_apart = c.requires.others_apart; size_is = num_kept c.args.top c.unsigned_abs-size.result c.ranges.top c.unsigned_abs-size.ensures.value; shared_is = c.gcd-shared.ensures; top_is = c.divided-lowest_top.ensures; rest_is = c.divided-rest.ensures })

pub returns : goal.returns
returns c = answer_at c.from_sizes.result (frac (with_sign (int_lt (kept c.args.top) (pos 0)) c.divided-lowest_top.result) c.in_ok-bottom.bottom) (frac c.args.top (c.args.own * (c.args.others * c.args.common))) (over_read c.args.top c.unsigned_abs-size.result c.args.own c.args.others c.args.common c.gcd-shared.result c.divided-lowest_top.result c.divided-rest.result c.in_ok-bottom.bottom (record { own_positive = c.requires.own_positive; others_positive = c.requires.others_positive; common_positive = c.requires.common_positive; own_apart = c.requires.own_apart; others_apart = c.requires.others_apart; size_is = num_kept c.args.top c.unsigned_abs-size.result c.ranges.top c.unsigned_abs-size.ensures.value; shared_is = c.gcd-shared.ensures; top_is = c.divided-lowest_top.ensures; rest_is = c.divided-rest.ensures }) c.ranges.top c.in_ok-bottom.ensures.1) c.from_sizes.ensures
