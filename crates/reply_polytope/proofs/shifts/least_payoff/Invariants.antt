use Rattle.std.proofs.Common.{map}
use Rattle.std.specs.List.{range_with_len}
use Rattle.rational.specs.Extremes.{IsLeast}
use Rattle.game_core.specs.Table.{game_of}
use Rattle.reply_polytope.proofs.shifts.least_payoff.Given as goal

abbrev pub invariant-loop-profile : goal.invariant-loop-profile
invariant-loop-profile l = IsLeast (map ((game_of l.table).pays l.player) (range_with_len 0 l.profile)) l.least
