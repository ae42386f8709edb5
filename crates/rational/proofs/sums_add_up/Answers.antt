use Rattle.std.proofs.Common.{refl}
use Rattle.rational.proofs.SumLemmas.{sum_to-add, sum_to-scale, sum_to-exchange, sum_to-append, sum_to-le, each_zero}
use Rattle.rational.proofs.sums_add_up.Goals as goal

pub returns : goal.returns
returns c = record {
  empty = λ f. refl;
  next = λ n f. refl;
  sum = sum_to-add;
  multiple = sum_to-scale;
  exchange = sum_to-exchange;
  append = sum_to-append;
  at_most = sum_to-le;
  each_zero = each_zero;
}
