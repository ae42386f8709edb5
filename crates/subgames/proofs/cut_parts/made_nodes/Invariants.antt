use Rattle.std.proofs.Common.{ℕ, ◌≡◌, List, Option, length, map}
use Rattle.std.specs.List.{range_with_len}
use Rattle.game_core.specs.TreeGame.{game_of_tree}
use Rattle.subgames.specs.CutParts.{AreIndicesIn, cut_node}
use Rattle.subgames.proofs.cut_parts.made_nodes.Given as goal

abbrev pub invariant-loop-number : goal.invariant-loop-number
invariant-loop-number l =
    (indices : List (Option ℕ)) → AreIndicesIn l.nodes (length l.tree.nodes) indices
    → l.made.items ≡ map (cut_node (game_of_tree l.tree) l.nodes indices l.sets l.names) (range_with_len 0 l.number)
