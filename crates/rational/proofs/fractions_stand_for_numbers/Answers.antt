use Rattle.rational.proofs.DenominatorLemmas.{den_pos, lowest}
use Rattle.rational.proofs.FractionLemmas.{frac_self}
use Rattle.rational.proofs.InverseLemmas.{frac-inv, frac-inv_neg}
use Rattle.rational.proofs.PartLemmas.{frac-eq, frac-le, frac-lt, frac-add, frac-mul, frac-neg}
use Rattle.rational.proofs.fractions_stand_for_numbers.Goals as goal

pub returns : goal.returns
returns c = record {
  own_parts = frac_self;
  lowest = λ a. (den_pos a, lowest a);
  equal = frac-eq;
  at_most = frac-le;
  below = frac-lt;
  sum = frac-add;
  product = frac-mul;
  negation = frac-neg;
  inverse = frac-inv;
  inverse_of_negative = frac-inv_neg;
}
