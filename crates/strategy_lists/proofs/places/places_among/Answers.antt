use Rattle.std.proofs.Common.{ℕ, ◌≡◌, ◌∙◌, None, length, drop, get_or, ap, arith, add-one}
use Rattle.std.proofs.lemmas.List.{take_at}
use Rattle.game_core.specs.Tree.{IsBelow}
use Rattle.strategy_lists.specs.OwnNumbers.{counted}
use Rattle.strategy_lists.proofs.OwnNumberLemmas.{AreCounts-next, ArePlacesAmong-all, ArePlacesBelow-next, counts-room, place-counted}
use Rattle.strategy_lists.proofs.places.places_among.Goals as goal

pub next_place-requires-clause-few : goal.next_place-requires-clause-few
next_place-requires-clause-few c =
    let within : IsBelow (length c.loop-owner.counts.items) (get_or c.args.owners.now c.loop-owner.owner-index None) = rw c.loop-owner.invariant.0 (c.requires.within c.loop-owner.owner-index None c.loop-owner-test.true) in
    rw c.as_mut_slice.ensures.value (counts-room (λ k. get_or c.args.owners.now k None) c.loop-owner.owner-index c.loop-owner.counts.items _ c.loop-owner.invariant.1 within (omega arith))

pub loop-owner-preserved : goal.loop-owner-preserved
loop-owner-preserved c =
    let owner = λ (k : ℕ). get_or c.args.owners.now k None in
    let index = c.loop-owner.owner-index in
    let within : IsBelow (length c.loop-owner.counts.items) (owner index) = rw c.loop-owner.invariant.0 (c.requires.within index None c.loop-owner-test.true) in
    let counts : c.next_place.new.counts ≡ counted c.loop-owner.counts.items (owner index) = rw c.as_mut_slice.ensures.value at c.next_place.ensures.counts in
    let place = rw c.as_mut_slice.ensures.value at c.next_place.ensures.place in
    let places = ArePlacesBelow-next owner index c.next_place.result c.loop-owner.places.items (place-counted owner index c.next_place.result c.loop-owner.counts.items c.loop-owner.invariant.1 within place) c.loop-owner.invariant.2 in
    let next = AreCounts-next owner index c.loop-owner.counts.items c.loop-owner.invariant.1 in
    let long : length c.next_place.new.counts ≡ c.loop-owner.counts.len = omega arith in
    let kept = take_at c.next_place.new.counts (drop (length c.next_place.new.counts) c.loop-owner.counts.items) c.loop-owner.counts.len long ∙ counts in
    let players : length (counted c.loop-owner.counts.items (owner index)) ≡ c.args.players = omega (arith, ap length counts) in
    rw (kept, add-one, c.in_ok-push.ensures.items) (players, next, places)

pub returns : goal.returns
returns c = ArePlacesAmong-all c.args.owners.now c.loop-owner.owner-index c.loop-owner.places.items (omega arith) c.loop-owner.invariant.2
