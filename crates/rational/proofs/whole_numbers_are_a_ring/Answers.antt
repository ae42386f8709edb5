use Rattle.rational.proofs.IntegerRing.{integer_ring}
use Rattle.rational.proofs.whole_numbers_are_a_ring.Goals as goal

pub returns : goal.returns
returns c = record {
  add_assoc = integer_ring.add_assoc;
  add_comm = integer_ring.add_comm;
  add-zero = integer_ring.add-zero;
  add-neg = integer_ring.add-neg;
  mul_assoc = integer_ring.mul_assoc;
  mul_comm = integer_ring.mul_comm;
  mul-one = integer_ring.mul-one;
  mul-add = integer_ring.mul-add;
}
