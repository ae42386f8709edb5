use Rattle.frac128.proofs.PartLemmas.{zero_test}
use Rattle.frac128.proofs.frac.Frac.is_zero.Goals as goal

pub returns : goal.returns
returns c = zero_test c.args.self c.num.result c.num.ensures.value c.num.ensures.fits
