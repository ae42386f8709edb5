use Rattle.std.proofs.Common.{◌≡◌, All, length, map, take}
use Rattle.std.specs.List.{range_with_len}
use Rattle.frac128.specs.FirstUnfit.{StepsFit}
use Rattle.game_core.specs.TreeGame.{game_of_tree}
use Rattle.sequence_form.specs.Paths.{leaf_at, node_steps}
use Rattle.sequence_form.proofs.paths.paths.Given as goal

abbrev pub invariant-loop-node : goal.invariant-loop-node
invariant-loop-node l = record {
  are : l.paths.items ≡ map (leaf_at (game_of_tree l.tree)) (range_with_len 0 l.node);
  fit : All (StepsFit (node_steps (game_of_tree l.tree))) (take l.node (range_with_len 0 (length l.tree.nodes)));
}
