use Rattle.std.proofs.Common.{◌≡◌, map}
use Rattle.written_trees.specs.Building.{finished_outcome}
use Rattle.tree_grammar.specs.Uses.{partial_outcome}
use Rattle.tree_grammar.proofs.outcomes.Outcomes.finish.Given as goal

abbrev pub invariant-loop-outcome : goal.invariant-loop-outcome
invariant-loop-outcome l = l.finished.items ≡ map finished_outcome (map partial_outcome l.yielded)
