use Rattle.std.proofs.Common.{ℕ, ◌*◌, ◌<◌, ◌≡◌, Bool, length, get_or}
use Rattle.label_pairing.specs.Matches.{completes}
use Rattle.label_pairing.proofs.matching.matches.Given as goal

abbrev pub invariant-loop-block : goal.invariant-loop-block
invariant-loop-block l = record {
  so_many : length l.found ≡ length l.fn.found;
  done : (k : ℕ) (d : Bool) → k < 8 * l.block → get_or l.found k d ≡ completes l.mask l.all (get_or l.low k 0) (get_or l.high k 0);
}
