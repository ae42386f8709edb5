use Rattle.std.proofs.Common.{◌≡◌, map, take}
use Rattle.game_core.specs.TreeGame.{game_of_tree}
use Rattle.subgames.specs.CutParts.{cut_outcome}
use Rattle.subgames.proofs.cut_parts.made_outcomes.Given as goal

abbrev pub invariant-loop-node : goal.invariant-loop-node
invariant-loop-node l =
    l.made.items ≡ map (cut_outcome (game_of_tree l.tree) l.begins l.root l.worth) (take l.node-index l.nodes)
