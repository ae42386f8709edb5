use Rattle.std.proofs.Common.{◌≡◌, ◌≤◌}
use Rattle.label_pairing.proofs.PartnerLemmas.{partners_below}
use Rattle.label_pairing.proofs.counting.place_count.Given as goal

abbrev pub invariant-loop-i : goal.invariant-loop-i
invariant-loop-i l = record {
  count : l.count ≡ partners_below l.mask l.all l.low l.high l.i;
  few : l.count ≤ l.i;
}
