use Rattle.std.proofs.Common.{◌≡◌, ◌+◌}
use Rattle.std.specs.Prelude.{sum}
use Rattle.game_core.specs.TreeGame.{game_of_tree}
use Rattle.behaviour_profile.proofs.TreeGroupLemmas.{counts_below}
use Rattle.behaviour_profile.proofs.entries.is_count.Given as goal

abbrev pub invariant-loop-player : goal.invariant-loop-player
invariant-loop-player l = l.left + sum (counts_below (game_of_tree l.tree) l.player) ≡ l.count
