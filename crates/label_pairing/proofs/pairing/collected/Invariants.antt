use Rattle.std.proofs.Common.{◌≡◌, List, length}
use Rattle.linear_systems.specs.Vertices.{MarkedPoint}
use Rattle.basis_enum.specs.Vertices.{marks_of}
use Rattle.label_pairing.specs.Matches.{AreWords}
use Rattle.label_pairing.proofs.RowLemmas.{rows}
use Rattle.label_pairing.proofs.pairing.collected.Given as goal

abbrev pub invariant-loop-i : goal.invariant-loop-i
invariant-loop-i l = record {
  pairs : (second : List MarkedPoint) → AreWords second l.candidates.low.now l.candidates.high.now → l.pairs.items ≡ rows l.candidates.all (marks_of l.first) second l.i;
  room : length l.found.items ≡ length l.candidates.low.now;
}
