use Rattle.std.proofs.Common.{arith}
use Rattle.game_theory.specs.Mixed.{pure}
use Rattle.game_theory.proofs.ProfileNumberLemmas.{length-profile}
use Rattle.enumpure.proofs.ProfileEntryLemmas.{entries-push}
use Rattle.enumpure.proofs.listing.set_entries.Goals as goal

pub bounds-profile-player : goal.bounds-profile-player
bounds-profile-player c = omega (arith, length-profile c.args.counts.now c.args.profile.now c.requires.profile)

pub loop-player-preserved : goal.loop-player-preserved
loop-player-preserved c =
    entries-push _ c.loop-player.entries.items c.args.counts.now (pure c.args.profile.now) c.loop-player.player (omega arith) c.loop-player.invariant (c.in_ok-push_sure.ensures {u = tt})
