use Rattle.std.proofs.Common.{Result, drop}
use Rattle.rational.specs.Rational.{ℚ}
use Rattle.frac128.specs.Fraction.{Fits}
use Rattle.frac128.specs.Steps.{StepsGive}
use Rattle.frac128.specs.declared.steps.Unfit.{Unfit}
use Rattle.game_theory.specs.Profiles.{profile_at}
use Rattle.game_core.specs.Table.{strategy_counts}
use Rattle.best_replies.specs.Strategies.{weight}
use Rattle.verdicts.specs.TableChecks.{table_weight_steps}
use Rattle.verdicts.specs.TableReplies.{GiveFrom, mixed_at, player_after}
use Rattle.verdicts.proofs.tables.TableReplies.others_weight.Given as goal

-- what the factors that are still to come give is what all of them give
abbrev pub invariant-loop-place : goal.invariant-loop-place
invariant-loop-place l =
    let counts = strategy_counts l.self.table.now in
    let m = mixed_at l.self in
    let i = l.self.player in
    let strategies = profile_at counts l.profile in
    let next = player_after l.self.deciders.now.listed l.place in
    record {
      fits : Fits l.product;
      left : (r : Result ℚ Unfit) → GiveFrom m i next (profile_at (drop next counts) l.rest) l.product r → StepsGive (table_weight_steps m i strategies) (weight m i strategies) r;
    }
