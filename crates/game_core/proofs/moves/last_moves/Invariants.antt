use Rattle.std.proofs.Common.{◌≡◌, ◌-◌, length}
use Rattle.game_core.specs.TreeGame.{game_of_tree}
use Rattle.game_core.specs.LastMoves.{AreLastMoves, AreMovesBefore}
use Rattle.game_core.proofs.moves.last_moves.Given as goal

-- the moves before the nodes so far, and each player's last move above the last of them
abbrev pub invariant-loop-node : goal.invariant-loop-node
invariant-loop-node l = record {
  so_many : length l.moves.items ≡ l.node;
  are_before : AreMovesBefore (game_of_tree l.tree) l.moves.items;
  are_last : AreLastMoves (game_of_tree l.tree) (l.node - 1) l.last;
}
