use Rattle.frac128.proofs.SignedPartLemmas.{product_answer}
use Rattle.frac128.proofs.frac.Frac.product.Goals as goal

pub returns : goal.returns
returns c = product_answer c.args.self c.args.other c.num-num.result c.den.result c.num-other_num.result c.den-2.result c.unsigned_abs-size.result c.unsigned_abs-den.result c.unsigned_abs-other_size.result c.unsigned_abs-other_den.result c.product_of.result (record { fits = c.num-num.ensures.fits; num_is = c.num-num.ensures.value; size_is = c.unsigned_abs-size.ensures.value; den_is = c.den.ensures.value; den_size_is = c.unsigned_abs-den.ensures.value }) (record { fits = c.num-other_num.ensures.fits; num_is = c.num-other_num.ensures.value; size_is = c.unsigned_abs-other_size.ensures.value; den_is = c.den-2.ensures.value; den_size_is = c.unsigned_abs-other_den.ensures.value }) c.product_of.ensures
