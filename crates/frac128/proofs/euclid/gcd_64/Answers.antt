use Rattle.std.proofs.Common.{sym, ap, ◌∙◌}
use Rattle.rational.specs.Gcd.{gcd as gcd_of}
use Rattle.frac128.proofs.QuotientLemmas.{gcd-step, gcd-zero}
use Rattle.frac128.proofs.euclid.gcd_64.Goals as goal

pub loop-y-preserved : goal.loop-y-preserved
loop-y-preserved c = sym (gcd-step c.loop-y.x c.loop-y.y) ∙ c.loop-y.invariant

pub returns : goal.returns
returns c = sym (gcd-zero c.loop-y.x) ∙ ap (gcd_of c.loop-y.x) (sym c.loop-y-test.false) ∙ c.loop-y.invariant
