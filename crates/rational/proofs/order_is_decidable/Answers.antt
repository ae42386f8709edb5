use Rattle.rational.proofs.Field.{le_or_lt, not_lt_of_le}
use Rattle.rational.proofs.Decide.{eq_or_ne, le_test-true, lt_test-true, eq_ℚ-decides}
use Rattle.rational.proofs.TestLemmas.{cmp_ℚ-less, cmp_ℚ-equal, cmp_ℚ-greater, sign_of-positive, sign_of-zero, sign_of-negative}
use Rattle.rational.proofs.order_is_decidable.Goals as goal

pub returns : goal.returns
returns c = record {
  at_most = le_or_lt;
  never_both = not_lt_of_le;
  equal = eq_or_ne;
  at_most_test = le_test-true;
  below_test = lt_test-true;
  equal_test = eq_ℚ-decides;
  compares_less = cmp_ℚ-less;
  compares_equal = cmp_ℚ-equal;
  compares_greater = cmp_ℚ-greater;
  positive_sign = sign_of-positive;
  zero_sign = sign_of-zero;
  negative_sign = sign_of-negative;
}
