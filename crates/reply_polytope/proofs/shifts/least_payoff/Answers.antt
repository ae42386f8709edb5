use Rattle.std.proofs.Common.{◌≡◌, subst, map, arith}
use Rattle.std.specs.List.{range_with_len}
use Rattle.rational.specs.Extremes.{IsLeast}
use Rattle.game_theory.specs.Profiles.{profile_count}
use Rattle.game_core.specs.Table.{game_of, strategy_counts}
use Rattle.reply_polytope.proofs.LeastLemmas.{least_of_one, least_more}
use Rattle.reply_polytope.proofs.shifts.least_payoff.Goals as goal

pub loop-profile-init : goal.loop-profile-init
loop-profile-init c =
    least_of_one ((game_of c.args.table.now).pays c.args.player) c.payoff_at-least.result c.payoff_at-least.ensures

pub loop-profile-preserved : goal.loop-profile-preserved
loop-profile-preserved c =
    least_more c.loop-profile.profile ((game_of c.args.table.now).pays c.args.player) c.loop-profile.least c.payoff_at-other.result c.min-least.result c.loop-profile.invariant c.payoff_at-other.ensures c.min-least.ensures

pub returns : goal.returns
returns c =
    let all : c.loop-profile.profile ≡ profile_count (strategy_counts c.args.table.now) = omega (arith, c.loop-profile-test.false, c.loop-profile.auto.profile-end, c.requires.profiles) in
    subst (λ n. IsLeast (map ((game_of c.args.table.now).pays c.args.player) (range_with_len 0 n)) c.loop-profile.least) all c.loop-profile.invariant
