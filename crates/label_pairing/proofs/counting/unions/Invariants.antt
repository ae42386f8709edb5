use Rattle.std.proofs.Common.{ℕ, ◌≡◌, ◌+◌, ◌*◌, ◌<◌, length, get_or}
use Rattle.label_pairing.specs.Matches.{HasBitsOf}
use Rattle.label_pairing.proofs.counting.unions.Given as goal

abbrev pub invariant-loop-block : goal.invariant-loop-block
invariant-loop-block l = record {
  so_many : length l.unions.items ≡ l.block;
  have : (b i : ℕ) → b < l.block → i < 8 → HasBitsOf (get_or l.unions.items b 0) (get_or l.words (8 * b + i) 0);
}
