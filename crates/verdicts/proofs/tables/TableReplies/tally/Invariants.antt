use Rattle.std.proofs.Common.{◌≡◌, All}
use Rattle.std.specs.List.{flat_map, range_with_len}
use Rattle.frac128.specs.Steps.{StepFits, StepsGive}
use Rattle.best_replies.specs.Greatest.{IsFirstGreatest}
use Rattle.best_replies.specs.Strategies.{strategy_value}
use Rattle.verdicts.specs.TableReplies.{table_game_at, mixed_at}
use Rattle.verdicts.specs.TableChecks.{payoff_below, strategy_payoff_steps, strategy_steps}
use Rattle.verdicts.proofs.tables.TableReplies.tally.Given as goal

abbrev pub invariant-loop-strategy : goal.invariant-loop-strategy
invariant-loop-strategy l =
    let m = mixed_at l.self in
    let g = table_game_at l.self in
    let reply = l.best.0 in
    record {
      best : IsFirstGreatest l.strategy (strategy_value g m l.self.player) reply;
      value : l.best.1.0 ≡ strategy_value g m l.self.player reply;
      fit : All StepFits (flat_map (strategy_steps g m l.self.player) (range_with_len 0 l.strategy));
      payoff : StepsGive (flat_map (strategy_payoff_steps g m l.self.player) (range_with_len 0 l.strategy)) (payoff_below g m l.self.player l.strategy) l.payoff;
    }
