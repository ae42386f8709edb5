use Rattle.std.proofs.Common.{◌≡◌, map}
use Rattle.written_trees.specs.Building.{finished_set}
use Rattle.tree_grammar.specs.Uses.{partial_set}
use Rattle.tree_grammar.proofs.sets.Sets.finish.Given as goal

abbrev pub invariant-loop-set : goal.invariant-loop-set
invariant-loop-set l = l.finished.items ≡ map finished_set (map partial_set l.yielded)
