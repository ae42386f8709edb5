use Rattle.std.proofs.Common.{◌≡◌, ◌+◌, take}
use Rattle.std.specs.Prelude.{sum}
use Rattle.game_core.specs.TreeGame.{game_of_tree}
use Rattle.game_theory.specs.OwnSets.{own_counts}
use Rattle.behaviour_profile.proofs.entries.left_by.Given as goal

abbrev pub invariant-loop-set : goal.invariant-loop-set
invariant-loop-set l = l.left + sum (take l.set-index (own_counts (game_of_tree l.tree) l.player)) ≡ l.count
