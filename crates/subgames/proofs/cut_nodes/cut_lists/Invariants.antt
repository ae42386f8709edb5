use Rattle.std.proofs.Common.{map}
use Rattle.game_core.specs.TreeGame.{game_of_tree}
use Rattle.subgames.proofs.CutListLemmas.{ListCutsBefore}
use Rattle.subgames.proofs.cut_nodes.cut_lists.Given as goal

abbrev pub invariant-loop-node : goal.invariant-loop-node
invariant-loop-node l = ListCutsBefore (game_of_tree l.tree) l.node (map (λ v. v.items) l.cuts.items)
