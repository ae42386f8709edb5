use Rattle.std.proofs.Common.{◌≡◌, map}
use Rattle.std.specs.List.{range_with_len}
use Rattle.game_core.specs.TreeGame.{game_of_tree}
use Rattle.perfect_recall.specs.Found.{edge_before}
use Rattle.perfect_recall.proofs.find.edges_before_sets.Given as goal

abbrev pub invariant-loop-number : goal.invariant-loop-number
invariant-loop-number l = l.before.items ≡ map (λ s. edge_before (game_of_tree l.tree) s ((game_of_tree l.tree).owner s)) (range_with_len 0 l.number)
