use Rattle.pure_payoffs.proofs.IdleNodeLemmas.{passed-all}
use Rattle.pure_payoffs.proofs.settled.settled_nodes.Goals as goal

pub returns : goal.returns
returns c = passed-all _ c.loop-node.node c.loop-node.idle.items c.stands_for_game_tree.ensures.game c.loop-node-test.false c.loop-node.invariant
