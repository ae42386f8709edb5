use Rattle.std.proofs.Common.{◌≡◌, drop}
use Rattle.game_theory.specs.Profiles.{number_of}
use Rattle.enumpure.proofs.listing.profile_number.Given as goal

-- the number of the later players' strategies
abbrev pub invariant-loop-player : goal.invariant-loop-player
invariant-loop-player l = l.number ≡ number_of (drop l.player l.counts) (drop l.player l.profile)
