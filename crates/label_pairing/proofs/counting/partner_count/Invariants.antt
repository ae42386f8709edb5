use Rattle.std.proofs.Common.{◌≡◌, ◌*◌, ◌≤◌}
use Rattle.label_pairing.proofs.PartnerLemmas.{partners_below}
use Rattle.label_pairing.proofs.counting.partner_count.Given as goal

abbrev pub invariant-loop-block : goal.invariant-loop-block
invariant-loop-block l = record {
  count : l.count ≡ partners_below l.mask l.candidates.all l.candidates.low.now l.candidates.high.now (8 * l.block);
  few : l.count ≤ 8 * l.block;
}
