use Rattle.frac128.proofs.SignedPartLemmas.{quotient_answer, divisor_size_pos, divisor_lowest}
use Rattle.frac128.proofs.frac.Frac.quotient.Goals as goal

pub product_of-requires-clause-right_positive : goal.product_of-requires-clause-right_positive
product_of-requires-clause-right_positive c = divisor_size_pos c.args.other c.num-divisor_num.result c.den-2.result c.unsigned_abs-divisor_size.result c.unsigned_abs-divisor_den.result c.requires (record { fits = c.num-divisor_num.ensures.fits; num_is = c.num-divisor_num.ensures.value; size_is = c.unsigned_abs-divisor_size.ensures.value; den_is = c.den-2.ensures.value; den_size_is = c.unsigned_abs-divisor_den.ensures.value })

pub product_of-requires-clause-right_lowest : goal.product_of-requires-clause-right_lowest
product_of-requires-clause-right_lowest c = divisor_lowest c.args.other c.num-divisor_num.result c.den-2.result c.unsigned_abs-divisor_size.result c.unsigned_abs-divisor_den.result (record { fits = c.num-divisor_num.ensures.fits; num_is = c.num-divisor_num.ensures.value; size_is = c.unsigned_abs-divisor_size.ensures.value; den_is = c.den-2.ensures.value; den_size_is = c.unsigned_abs-divisor_den.ensures.value })

pub returns : goal.returns
returns c = quotient_answer c.args.self c.args.other c.num-num.result c.den.result c.num-divisor_num.result c.den-2.result c.unsigned_abs-size.result c.unsigned_abs-den.result c.unsigned_abs-divisor_size.result c.unsigned_abs-divisor_den.result c.product_of.result c.requires (record { fits = c.num-num.ensures.fits; num_is = c.num-num.ensures.value; size_is = c.unsigned_abs-size.ensures.value; den_is = c.den.ensures.value; den_size_is = c.unsigned_abs-den.ensures.value }) (record { fits = c.num-divisor_num.ensures.fits; num_is = c.num-divisor_num.ensures.value; size_is = c.unsigned_abs-divisor_size.ensures.value; den_is = c.den-2.ensures.value; den_size_is = c.unsigned_abs-divisor_den.ensures.value }) c.product_of.ensures
