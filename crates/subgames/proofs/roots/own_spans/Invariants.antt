use Rattle.game_core.specs.TreeGame.{game_of_tree}
use Rattle.subgames.specs.Spans.{AreOwnSpans}
use Rattle.subgames.proofs.roots.own_spans.Given as goal

abbrev pub invariant-loop-node : goal.invariant-loop-node
invariant-loop-node l = AreOwnSpans (game_of_tree l.tree) l.node l.spans.items
