use Rattle.std.proofs.Common.{◌≡◌, take}
use Rattle.std.specs.List.{sum_by}
use Rattle.enumpure.proofs.lengths.line_length.Given as goal

abbrev pub invariant-loop-count : goal.invariant-loop-count
invariant-loop-count l = l.strategies ≡ sum_by (λ n. n) (take l.count-index l.counts)
