use Rattle.std.proofs.Common.{◌/◌, get_or, arith}
use Rattle.std.proofs.Math.Nat.{mod-le}
use Rattle.game_theory.specs.Ranks.{ranked}
use Rattle.enumpure.proofs.ProfilePartLemmas.{IsSetBelow-next, IsSetBelow-all, length-ranked}
use Rattle.enumpure.proofs.listing.set_ranked.Goals as goal

pub loop-player-preserved : goal.loop-player-preserved
loop-player-preserved c =
    let ns = c.args.counts.now in
    let below = IsSetBelow-next ns (ranked ns c.args.rank) c.loop-player.profile c.loop-player.player c.loop-player.later c.loop-player.rest (omega arith) (omega (arith, length-ranked ns c.args.rank)) (omega arith) c.loop-player.invariant.below in
    record { below = below; small = omega (arith, mod-le c.loop-player.rest (c.loop-player.later / get_or ns c.loop-player.player 0), c.loop-player.invariant.small) }

pub returns : goal.returns
returns c =
    let ns = c.args.counts.now in
    IsSetBelow-all ns (ranked ns c.args.rank) c.loop-player.profile c.loop-player.player c.loop-player.later c.loop-player.rest (omega (arith, length-ranked ns c.args.rank)) (omega (arith, length-ranked ns c.args.rank)) c.loop-player.invariant.below
