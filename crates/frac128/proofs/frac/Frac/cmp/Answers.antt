use Rattle.std.proofs.Common.{refl}
use Rattle.frac128.proofs.ComparisonLemmas.{by_nums, by_products, short_product}
use Rattle.frac128.proofs.PartLemmas.{kept}
use Rattle.frac128.proofs.frac.Frac.cmp.Goals as goal

pub returns-then-den-other_den : goal.returns-then-den-other_den
returns-then-den-other_den c =
    by_nums c.args.self c.args.other c.num-num.result c.den-den.result c.num-other_num.result c.den-other_den.result c.cmp.result (record { left = c.num-num.ensures.fits; right = c.num-other_num.ensures.fits; num = c.num-num.ensures.value; den = c.den-den.ensures.value; other_num = c.num-other_num.ensures.value; other_den = c.den-other_den.ensures.value }) c.if-den-other_den.true c.cmp.ensures

pub overflow_mul-num : goal.overflow_mul-num
overflow_mul-num c =
    short_product (kept c.num-num.result) (kept c.den-other_den.result) (c.if-is_short.ensures.0 refl) (c.if-is_short-4.ensures.0 refl)

pub overflow_mul-other_num : goal.overflow_mul-other_num
overflow_mul-other_num c =
    short_product (kept c.num-other_num.result) (kept c.den-den.result) (c.if-is_short-3.ensures.0 refl) (c.if-is_short-2.ensures.0 refl)

pub returns-then-is_short-4 : goal.returns-then-is_short-4
returns-then-is_short-4 c =
    by_products c.args.self c.args.other c.num-num.result c.den-den.result c.num-other_num.result c.den-other_den.result c.cmp-then-is_short-4.result (record { left = c.num-num.ensures.fits; right = c.num-other_num.ensures.fits; num = c.num-num.ensures.value; den = c.den-den.ensures.value; other_num = c.num-other_num.ensures.value; other_den = c.den-other_den.ensures.value }) (record { num = c.if-is_short.ensures.0 refl; den = c.if-is_short-2.ensures.0 refl; other_num = c.if-is_short-3.ensures.0 refl; other_den = c.if-is_short-4.ensures.0 refl }) c.cmp-then-is_short-4.ensures
