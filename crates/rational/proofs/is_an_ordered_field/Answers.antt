use Rattle.rational.proofs.Field.{*ℚ-inv, le_trans, le_antisymm, le_total, lt-le, le-add_left, nonneg-mul}
use Rattle.rational.proofs.InverseLemmas.{inv_ℚ-zero, zero_lt_one}
use Rattle.rational.proofs.is_an_ordered_field.Goals as goal

pub returns : goal.returns
returns c = record {
  zero_below_one = zero_lt_one;
  mul-inv = *ℚ-inv;
  inv-zero = inv_ℚ-zero;
  le_trans = le_trans;
  le_antisymm = le_antisymm;
  le_total = le_total;
  lt-le = lt-le;
  le-add_left = le-add_left;
  nonneg-mul = nonneg-mul;
}
