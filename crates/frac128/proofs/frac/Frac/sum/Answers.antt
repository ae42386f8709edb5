use Rattle.frac128.proofs.PartLemmas.{zero_read}
use Rattle.frac128.proofs.LikeSumLemmas.{left_zero, right_zero}
use Rattle.frac128.proofs.frac.Frac.sum.Goals as goal

pub returns-then-num-eq0 : goal.returns-then-num-eq0
returns-then-num-eq0 c = left_zero c.args.self c.args.other (zero_read c.args.self c.num-num.result c.num-num.ensures.value c.num-num.ensures.fits c.if-num-eq0.true) c.num-other_num.ensures.fits

pub returns-then-other_num-eq0 : goal.returns-then-other_num-eq0
returns-then-other_num-eq0 c = right_zero c.args.self c.args.other (zero_read c.args.other c.num-other_num.result c.num-other_num.ensures.value c.num-other_num.ensures.fits c.if-other_num-eq0.true) c.num-num.ensures.fits
