use Rattle.std.proofs.Common.{ℕ, ◌<◌, ◌≡◌, Bool, length, get_or, take}
use Rattle.enummixed.specs.Used.{occurs}
use Rattle.enummixed.proofs.points.used.Given as goal

abbrev pub invariant-loop-place : goal.invariant-loop-place
invariant-loop-place l = record {
  count : length l.used.items ≡ l.count;
  used : (i : ℕ) (d : Bool) → i < l.count → get_or l.used.items i d ≡ occurs (take l.place-index l.places) i;
}
