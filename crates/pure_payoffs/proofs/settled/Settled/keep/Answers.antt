use Rattle.std.proofs.Common.{◌<◌, Some, length, refl, arith}
use Rattle.pure_payoffs.proofs.SettledNodeLemmas.{Settles-from_one}
use Rattle.pure_payoffs.proofs.SettledPlaceLemmas.{place-read, place-written, places-kept, values-kept}
use Rattle.pure_payoffs.proofs.settled.Settled.keep.Goals as goal

pub returns-then-player-len : goal.returns-then-player-len
returns-then-player-len c t choice w keep gives =
    let within : c.args.player < length c.index_mut-places.result.now.items = omega (arith, c.len.ensures, c.index_mut-places.result.now.ok.0) in
    let inside : c.args.node < t.size = omega (arith, keep.one_for_each) in
    let kept = places-kept t c.args.self.now keep in
    let old = place-read (λ v. v.items) t t.size c.args.self.now.places.items kept c.args.node c.args.player c.index_mut-places.result.now inside c.index_mut-places.ensures.value within in
    values-kept t _ (place-written (λ v. v.items) t t.size c.args.self.now.places.items kept c.args.node c.args.player c.index_mut-places.result.now inside c.index_mut-places.ensures.value within _ (Some c.args.worth) refl (record { settled = old.settled; value = Settles-from_one t w choice c.args.player c.args.node c.args.worth inside old.settled gives }))
