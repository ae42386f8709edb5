use Rattle.std.proofs.Common.{ℕ, ◌<◌, ◌≡◌, Bool, length, get_or, nat_eq}
use Rattle.std.specs.Int.{bit_at}
use Rattle.label_pairing.proofs.matching.write_bits.Given as goal

abbrev pub invariant-loop-i : goal.invariant-loop-i
invariant-loop-i l = record {
  so_many : length l.found ≡ length l.fn.found;
  done : (k : ℕ) (d : Bool) → k < l.i → get_or l.found k d ≡ nat_eq (bit_at l.bits k) 1;
}
