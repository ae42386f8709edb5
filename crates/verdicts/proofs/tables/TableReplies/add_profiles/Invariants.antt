use Rattle.std.proofs.Common.{◌≡◌, ◌-◌, All}
use Rattle.std.specs.List.{flat_map, range_with_len}
use Rattle.frac128.specs.Steps.{StepFits}
use Rattle.verdicts.specs.TableReplies.{table_game_at, mixed_at}
use Rattle.verdicts.specs.TableChecks.{steps_at}
use Rattle.best_replies.specs.Strategies.{value_below}
use Rattle.verdicts.proofs.tables.TableReplies.add_profiles.Given as goal

abbrev pub invariant-loop-profile : goal.invariant-loop-profile
invariant-loop-profile l =
    let m = mixed_at l.self in
    let g = table_game_at l.self in
    record {
      value : l.value ≡ value_below g m l.self.player l.strategy l.profile;
      fit : All StepFits (flat_map (steps_at g m l.self.player l.strategy) (range_with_len l.first (l.profile - l.first)));
    }
