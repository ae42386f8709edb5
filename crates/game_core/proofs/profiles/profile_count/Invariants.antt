use Rattle.std.proofs.Common.{◌≡◌, take}
use Rattle.game_theory.specs.Profiles.{profile_count}
use Rattle.game_core.proofs.profiles.profile_count.Given as goal

abbrev pub invariant-loop-count : goal.invariant-loop-count
invariant-loop-count l = l.profiles ≡ profile_count (take l.count-index l.counts)
