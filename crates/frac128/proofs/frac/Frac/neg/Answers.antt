use Rattle.frac128.proofs.PartLemmas.{neg_value}
use Rattle.frac128.proofs.frac.Frac.neg.Goals as goal

pub returns : goal.returns
returns c =
    neg_value c.args.self c.from_lowest_terms.result c.num.result c.den.result c.unsigned_abs.result c.num.ensures.fits c.num.ensures.value c.den.ensures.value c.unsigned_abs.ensures.value c.from_lowest_terms.ensures.num c.from_lowest_terms.ensures.den
