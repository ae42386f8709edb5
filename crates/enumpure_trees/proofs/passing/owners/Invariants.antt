use Rattle.std.proofs.Common.{◌≡◌, map, take}
use Rattle.std.specs.Prelude.{unwrap_or}
use Rattle.game_core.specs.TreeGame.{game_of_tree}
use Rattle.enumpure_trees.proofs.passing.owners.Given as goal

abbrev pub invariant-loop-set : goal.invariant-loop-set
invariant-loop-set l =
    l.owners.items ≡ map (λ s. unwrap_or ((game_of_tree l.tree).owner s) 0) (take l.set-index l.sets)
