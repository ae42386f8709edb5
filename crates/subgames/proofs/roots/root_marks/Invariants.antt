use Rattle.game_core.specs.TreeGame.{game_of_tree}
use Rattle.subgames.proofs.RootLemmas.{AreRootMarksBelow}
use Rattle.subgames.proofs.roots.root_marks.Given as goal

abbrev pub invariant-loop-node : goal.invariant-loop-node
invariant-loop-node l = AreRootMarksBelow (game_of_tree l.tree) l.node l.begins.items
