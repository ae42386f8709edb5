use Rattle.rational.proofs.RationalRing.{+ℚ_assoc, +ℚ_comm, +ℚ-zero, +ℚ-neg, *ℚ_assoc, *ℚ_comm, *ℚ-one, *ℚ-add}
use Rattle.rational.proofs.is_a_commutative_ring.Goals as goal

pub returns : goal.returns
returns c = record {
  add_assoc = +ℚ_assoc;
  add_comm = +ℚ_comm;
  add-zero = +ℚ-zero;
  add-neg = +ℚ-neg;
  mul_assoc = *ℚ_assoc;
  mul_comm = *ℚ_comm;
  mul-one = *ℚ-one;
  mul-add = *ℚ-add;
}
