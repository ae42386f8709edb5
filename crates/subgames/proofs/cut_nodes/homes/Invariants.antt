use Rattle.game_core.specs.TreeGame.{game_of_tree}
use Rattle.subgames.specs.CutParts.{AreHomesBefore}
use Rattle.subgames.proofs.cut_nodes.homes.Given as goal

abbrev pub invariant-loop-node : goal.invariant-loop-node
invariant-loop-node l = AreHomesBefore (game_of_tree l.tree) l.node l.homes.items
