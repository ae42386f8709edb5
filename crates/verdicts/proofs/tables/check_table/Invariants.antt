use Rattle.std.proofs.Common.{ℕ, ◌<◌, ◌≡◌, take}
use Rattle.std.specs.Prelude.{sum}
use Rattle.game_theory.specs.Profiles.{stride}
use Rattle.game_core.specs.Table.{game_of, strategy_counts}
use Rattle.behaviour_profile.specs.EntryTests.{mixed_of}
use Rattle.verdicts.specs.TableChecks.{PassesTable}
use Rattle.verdicts.proofs.tables.check_table.Given as goal

abbrev pub invariant-loop-player : goal.invariant-loop-player
invariant-loop-player l =
    let counts = strategy_counts l.table in
    record {
      passed : (i : ℕ) → i < l.player → PassesTable (game_of l.table) (mixed_of counts l.mixed) i;
      first : l.first ≡ sum (take l.player counts);
      stride : l.stride ≡ stride counts l.player;
    }
