-- Short fractions, as the numbers of game files are.
use Rattle.std.specs.Prelude.{◌<◌, ◌^◌, nat_abs}
use Rattle.rational.specs.Rational.{ℚ}

-- both parts of a rational in lowest terms are below 2^63 in size
pub record IsShort (q : ℚ) : Type 0 where
  pub num : nat_abs q.num < 2 ^ 63
  pub den : q.den < 2 ^ 63
