use Rattle.linear_systems.proofs.StartLemmas.{start_reached, alike_reached, pivot_reached}
use Rattle.linear_systems.proofs.lexicographic_pivots_keep_feasibility.Goals as goal

pub returns : goal.returns
returns c = record { start = start_reached; alike = alike_reached; pivot = pivot_reached }
