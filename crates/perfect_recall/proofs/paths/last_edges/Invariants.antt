use Rattle.std.proofs.Common.{◌≡◌, length}
use Rattle.game_core.specs.TreeGame.{game_of_tree}
use Rattle.perfect_recall.specs.LastEdges.{AreLastEdges}
use Rattle.perfect_recall.proofs.paths.last_edges.Given as goal

abbrev pub invariant-loop-last : goal.invariant-loop-last
invariant-loop-last l = record {
  one_for_each : length l.edges.items ≡ l.last-index;
  are_edges : AreLastEdges (game_of_tree l.tree) l.edges.items;
}
