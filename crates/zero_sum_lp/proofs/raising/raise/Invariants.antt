use Rattle.std.proofs.Common.{◌≡◌, length}
use Rattle.sequence_data.specs.Data.{side_of}
use Rattle.rational.specs.Sum.{entry_at}
use Rattle.zero_sum_lp.proofs.PlanListLemmas.{IsRaisedTo}
use Rattle.zero_sum_lp.proofs.raising.raise.Given as goal

abbrev pub invariant-loop-j : goal.invariant-loop-j
invariant-loop-j l =
    record {
      shape : length l.weights ≡ length l.fn.weights;
      raised : IsRaisedTo (side_of l.side) l.j (entry_at l.fn.weights) (entry_at l.weights);
    }
