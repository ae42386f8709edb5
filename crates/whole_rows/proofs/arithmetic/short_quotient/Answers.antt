use Rattle.std.specs.Int.{w64}
use Rattle.whole_rows.proofs.QuotientLemmas.{exact}
use Rattle.whole_rows.proofs.arithmetic.short_quotient.Goals as goal

pub returns : goal.returns
returns c = exact w64 c.args.n c.args.d c.ranges.n c.ranges.d c.requires.positive c.requires.divides
