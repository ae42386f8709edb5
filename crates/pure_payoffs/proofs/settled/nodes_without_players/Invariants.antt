use Rattle.game_core.specs.TreeGame.{game_of_tree}
use Rattle.pure_payoffs.proofs.IdleNodeLemmas.{AreFirstWithoutPlayers}
use Rattle.pure_payoffs.proofs.settled.nodes_without_players.Given as goal

-- the idle nodes so far
abbrev pub invariant-loop-node : goal.invariant-loop-node
invariant-loop-node l = AreFirstWithoutPlayers (game_of_tree l.tree) l.node-index l.idle.items
