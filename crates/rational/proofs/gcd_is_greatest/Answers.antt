use Rattle.rational.specs.GcdLaws.{gcd-is}
use Rattle.rational.proofs.gcd_is_greatest.Goals as goal

pub returns : goal.returns
returns c = record {
  divides_first = λ a b. (gcd-is a b).0;
  divides_second = λ a b. (gcd-is a b).1;
  greatest = λ a b. (gcd-is a b).2;
}
