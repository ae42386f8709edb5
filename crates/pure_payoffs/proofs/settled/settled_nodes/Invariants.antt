use Rattle.game_core.specs.TreeGame.{game_of_tree}
use Rattle.pure_payoffs.proofs.IdleNodeLemmas.{ArePassedUp}
use Rattle.pure_payoffs.proofs.settled.settled_nodes.Given as goal

-- from this node on idle nodes are passed up
abbrev pub invariant-loop-node : goal.invariant-loop-node
invariant-loop-node l = ArePassedUp (game_of_tree l.tree) l.node l.idle.items
