use Rattle.std.proofs.Common.{◌≡◌, Result, drop, take}
use Rattle.std.specs.Prelude.{sum}
use Rattle.rational.specs.Rational.{ℚ}
use Rattle.frac128.specs.declared.steps.Unfit.{Unfit}
use Rattle.game_theory.specs.Profiles.{profile_at}
use Rattle.game_core.specs.Table.{strategy_counts}
use Rattle.verdicts.specs.TableReplies.{GiveFrom, mixed_at}
use Rattle.verdicts.proofs.tables.TableReplies.later_weight.Given as goal

-- what the factors that are still to come give is what all of them give
abbrev pub invariant-loop-other : goal.invariant-loop-other
invariant-loop-other l =
    let counts = strategy_counts l.self.table.now in
    let m = mixed_at l.self in
    let j = l.self.deciders.now.end.player in
    record {
      first : l.first ≡ sum (take l.other counts);
      left : (r : Result ℚ Unfit) → GiveFrom m l.self.player l.other (profile_at (drop l.other counts) l.rest) l.product r → GiveFrom m l.self.player j (profile_at (drop j counts) l.left) l.fn.so_far r;
    }
