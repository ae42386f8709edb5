use Rattle.std.proofs.Common.{refl}
use Rattle.std.specs.Fmt.{digits}
use Rattle.rational.specs.Gcd.{gcd}
use Rattle.rational.specs.Rational.{frac}
use Rattle.convert_tables.proofs.convert.prisoners_dilemma_is_laid_out.Goals as goal

pub returns : goal.returns
unfolding frac gcd digits
returns c = record { html = refl; sgame = refl }
