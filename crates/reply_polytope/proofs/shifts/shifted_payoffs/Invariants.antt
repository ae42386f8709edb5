use Rattle.std.proofs.Common.{ℕ, ◌<◌, ◌≡◌, map}
use Rattle.std.specs.List.{range_with_len}
use Rattle.rational.specs.Rational.{◌+ℚ◌}
use Rattle.frac128.specs.Steps.{AddFits}
use Rattle.game_core.specs.Table.{game_of}
use Rattle.reply_polytope.proofs.shifts.shifted_payoffs.Given as goal

abbrev pub invariant-loop-profile : goal.invariant-loop-profile
invariant-loop-profile l = record {
  made : l.shifted.items ≡ map (λ k. (game_of l.table).pays l.player k +ℚ l.shift) (range_with_len 0 l.profile);
  fit : (k : ℕ) → k < l.profile → AddFits ((game_of l.table).pays l.player k) l.shift;
}
