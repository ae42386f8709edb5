use Rattle.std.proofs.Common.{◌≡◌, All, take}
use Rattle.std.specs.Prelude.{sum}
use Rattle.game_core.specs.Table.{strategy_counts}
use Rattle.behaviour_profile.specs.EntryTests.{TestHolds, tests_from}
use Rattle.verdicts.proofs.mixed.test_players.Given as goal

abbrev pub invariant-loop-player : goal.invariant-loop-player
invariant-loop-player l =
    record {
      place : l.place ≡ sum (take l.player (strategy_counts l.table));
      passed : All TestHolds (tests_from l.entries 0 0 (take l.player (strategy_counts l.table)));
    }
