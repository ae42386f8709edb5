use Rattle.lists.specs.Listed.{AreListed}
use Rattle.lists.proofs.ListedLemmas.{IsPassingBelow}
use Rattle.game_core.specs.TreeGame.{game_of_tree}
use Rattle.subgames.specs.Roots.{IsSubgameRoot}
use Rattle.subgames.proofs.roots.subgame_roots.Given as goal

abbrev pub invariant-loop-node : goal.invariant-loop-node
invariant-loop-node l = AreListed (IsPassingBelow (IsSubgameRoot (game_of_tree l.tree)) l.node) l.roots.items
