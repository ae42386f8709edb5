use Rattle.std.proofs.Common.{map}
use Rattle.game_core.specs.TreeGame.{game_of_tree}
use Rattle.strategy_lists.proofs.PlayerDecisionLemmas.{AreMadeByAll}
use Rattle.strategy_lists.proofs.decisions.decisions_of_all.Given as goal

-- the decisions at the nodes before this one
abbrev pub invariant-loop-node : goal.invariant-loop-node
invariant-loop-node l = AreMadeByAll (game_of_tree l.tree) l.node l.numbers.items l.latest.items (map (λ v. v.items) l.lists.items)
