use Rattle.std.proofs.Common.{◌≡◌, length}
use Rattle.sequence_data.specs.Data.{side_of}
use Rattle.rational.specs.Sum.{entry_at}
use Rattle.zero_sum_lp.proofs.TrimmedListLemmas.{IsTrimmedTo}
use Rattle.zero_sum_lp.proofs.trimming.trim.Given as goal

abbrev pub invariant-loop-j : goal.invariant-loop-j
invariant-loop-j l =
    record {
      shape : length l.weights ≡ length l.fn.weights;
      trimmed : IsTrimmedTo (side_of l.side) l.j (entry_at l.fn.weights) (entry_at l.weights);
    }
