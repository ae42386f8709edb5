use Rattle.std.proofs.Common.{◌≤◌}
use Rattle.game_theory.specs.Trees.{IsWithin}
use Rattle.game_core.specs.TreeGame.{game_of_tree}
use Rattle.game_core.specs.LastMoves.{AreLastMoves}
use Rattle.game_core.proofs.moves.climb.Given as goal

-- on the way from the first node to the other one, each player's last move above it
abbrev pub invariant-loop-here : goal.invariant-loop-here
invariant-loop-here l = record {
  within : IsWithin (game_of_tree l.tree) l.to l.here;
  below : l.here ≤ l.from;
  are_last : AreLastMoves (game_of_tree l.tree) l.here l.last;
}

abbrev pub decreases-loop-here : goal.decreases-loop-here
decreases-loop-here l = l.here
