use Rattle.std.proofs.Common.{◌≡◌, ◌+◌, ◌≤◌, All, length, take}
use Rattle.std.specs.Prelude.{sum}
use Rattle.game_core.specs.TreeGame.{game_of_tree}
use Rattle.behaviour_profile.specs.EntryTests.{TestHolds, tests_from}
use Rattle.game_theory.specs.OwnSets.{own_counts}
use Rattle.behaviour_profile.proofs.entries.test_player.Given as goal

abbrev pub invariant-loop-set : goal.invariant-loop-set
invariant-loop-set l =
    let own = own_counts (game_of_tree l.tree) l.player in
    record {
      within : l.set-index ≤ length own;
      place : l.here ≡ l.place + sum (take l.set-index own);
      group : l.number ≡ l.group + l.set-index;
      passed : All TestHolds (tests_from l.entries l.place l.group (take l.set-index own));
    }
