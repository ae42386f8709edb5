use Rattle.std.proofs.Common.{map, take}
use Rattle.game_core.specs.TreeGame.{game_of_tree}
use Rattle.subgames.specs.CutParts.{AreSetNames, cut_set}
use Rattle.subgames.proofs.cut_sets.cut_sets.Given as goal

abbrev pub invariant-loop-node : goal.invariant-loop-node
invariant-loop-node l =
    AreSetNames (map (cut_set (game_of_tree l.tree) l.begins l.root) (take l.node-index l.nodes)) l.names.items l.sets.keys
