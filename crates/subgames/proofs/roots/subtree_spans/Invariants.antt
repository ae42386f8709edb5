use Rattle.game_core.specs.TreeGame.{game_of_tree}
use Rattle.subgames.proofs.SpanLemmas.{AreJoined}
use Rattle.subgames.proofs.roots.subtree_spans.Given as goal

-- from this node on spans are joined into those of parents
abbrev pub invariant-loop-node : goal.invariant-loop-node
invariant-loop-node l = AreJoined (game_of_tree l.tree) l.node l.initial.spans.items l.spans.items
