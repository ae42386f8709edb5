use Rattle.std.proofs.Common.{◌≡◌, All, length}
use Rattle.std.specs.Prelude.{sum}
use Rattle.game_core.specs.TreeGame.{game_of_tree}
use Rattle.behaviour_profile.specs.EntryTests.{TestHolds, tests_from}
use Rattle.behaviour_profile.proofs.TreeGroupLemmas.{counts_below}
use Rattle.behaviour_profile.proofs.entries.test_players.Given as goal

abbrev pub invariant-loop-player : goal.invariant-loop-player
invariant-loop-player l =
    let before = counts_below (game_of_tree l.tree) l.player in
    record {
      place : l.position.place ≡ sum before;
      group : l.position.group ≡ length before;
      passed : All TestHolds (tests_from l.entries 0 0 before);
    }
