use Rattle.std.proofs.Common.{map}
use Rattle.game_core.specs.TreeGame.{game_of_tree}
use Rattle.pure_payoffs.proofs.FilledListLemmas.{AreFilled}
use Rattle.pure_payoffs.proofs.children.children_of_all.Given as goal

-- the nodes before this one stand in their parents' lists
abbrev pub invariant-loop-node : goal.invariant-loop-node
invariant-loop-node l = AreFilled (game_of_tree l.tree) l.node (map (λ v. v.items) l.lists.items)
