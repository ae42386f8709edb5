use Rattle.std.proofs.Common.{◌≡◌, ◌++◌, take, drop, length}
use Rattle.game_theory.specs.Profiles.{profile_at}
use Rattle.game_core.proofs.profiles.set_profile.Given as goal

abbrev pub invariant-loop-player : goal.invariant-loop-player
invariant-loop-player l = record {
  one_for_each : length l.profile ≡ length l.counts;
  digits : take l.player l.profile ++ profile_at (drop l.player l.counts) l.rest ≡ profile_at l.counts l.fn.number;
}
