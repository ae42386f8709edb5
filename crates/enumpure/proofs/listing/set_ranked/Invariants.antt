use Rattle.std.proofs.Common.{◌≤◌}
use Rattle.game_theory.specs.Ranks.{ranked}
use Rattle.enumpure.proofs.ProfilePartLemmas.{IsSetBelow}
use Rattle.enumpure.proofs.listing.set_ranked.Given as goal

abbrev pub invariant-loop-player : goal.invariant-loop-player
invariant-loop-player l = record { below : IsSetBelow l.counts (ranked l.counts l.rank) l.profile l.player l.later l.rest; small : l.rest ≤ l.rank }
