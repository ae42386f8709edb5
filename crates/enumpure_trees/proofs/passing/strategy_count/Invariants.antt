use Rattle.std.proofs.Common.{◌≡◌, take}
use Rattle.game_core.specs.TreeGame.{game_of_tree}
use Rattle.game_theory.specs.OwnSets.{own_counts}
use Rattle.game_theory.specs.Profiles.{profile_count}
use Rattle.enumpure_trees.proofs.passing.strategy_count.Given as goal

abbrev pub invariant-loop-set : goal.invariant-loop-set
invariant-loop-set l = l.count ≡ profile_count (take l.set-index (own_counts (game_of_tree l.tree) l.player))
