use Rattle.frac128.proofs.ComparisonLemmas.{den_test}
use Rattle.frac128.proofs.frac.FracPartialEq.eq.Goals as goal

pub returns-then-num-clause-same : goal.returns-then-num-clause-same
returns-then-num-clause-same c =
    den_test c.args.self.now c.args.other.now c.num.result c.den.result c.num-2.result c.den-then-num.result (record { left = c.num.ensures.fits; right = c.num-2.ensures.fits; num = c.num.ensures.value; den = c.den.ensures.value; other_num = c.num-2.ensures.value; other_den = c.den-then-num.ensures.value }) c.if-num.true
