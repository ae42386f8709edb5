use Rattle.std.proofs.Common.{◌≡◌, map}
use Rattle.game_core.specs.TreeGame.{game_of_tree}
use Rattle.sequence_form.specs.Paths.{leaf_at}
use Rattle.sequence_form.proofs.PathStepLemmas.{first_leaves}
use Rattle.sequence_form.proofs.paths.leaves.Given as goal

abbrev pub invariant-loop-node : goal.invariant-loop-node
invariant-loop-node l = l.leaves.items ≡ map (leaf_at (game_of_tree l.tree)) (first_leaves (game_of_tree l.tree) l.node)
