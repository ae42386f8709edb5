use Rattle.std.proofs.Common.{map}
use Rattle.game_core.specs.TreeGame.{game_of_tree}
use Rattle.pure_payoffs.proofs.FilledListLemmas.{FirstHaveAsMany}
use Rattle.pure_payoffs.proofs.children.rooms.Given as goal

-- a list with room for each node so far
abbrev pub invariant-loop-node : goal.invariant-loop-node
invariant-loop-node l = FirstHaveAsMany (game_of_tree l.tree) l.node (map (λ v. v.items) l.lists.items)
