use Rattle.std.proofs.Common.{ℕ, ◌<◌, ◌≡◌, Bool, length, get_or}
use Rattle.label_pairing.specs.Matches.{completes}
use Rattle.label_pairing.proofs.matching.match_places.Given as goal

abbrev pub invariant-loop-i : goal.invariant-loop-i
invariant-loop-i l = record {
  so_many : length l.found ≡ length l.fn.found;
  done : (k : ℕ) (d : Bool) → k < l.i → get_or l.found k d ≡ completes l.mask l.all (get_or l.low k 0) (get_or l.high k 0);
}
