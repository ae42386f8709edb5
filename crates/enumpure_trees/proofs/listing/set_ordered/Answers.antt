use Rattle.std.proofs.Common.{length, map, arith}
use Rattle.std.proofs.lemmas.List.{length-map}
use Rattle.game_theory.specs.Ranks.{ranked}
use Rattle.enumpure_trees.proofs.RankedProfileLemmas.{IsWrittenBelow-none, IsNextPlace-read, IsWrittenBelow-next, IsWrittenBelow-all, place-read, value-at}
use Rattle.enumpure_trees.proofs.listing.set_ordered.Goals as goal

pub loop-player-init : goal.loop-player-init
loop-player-init c = IsWrittenBelow-none (map (λ v. v.items) c.args.orders.now) c.args.profile.now c.args.profiles c.args.rank c.requires.profiles c.requires.rank

pub nonzero_div-later : goal.nonzero_div-later
nonzero_div-later c =
    (IsNextPlace-read c.args.orders.now c.loop-player.profile c.args.rank c.loop-player.player c.loop-player.later c.loop-player.rest c.len-later.result c.index-orders-player.result c.loop-player-test.true c.index-orders-player.is c.len-later.ensures c.loop-player.invariant).some_strategy

pub nonzero_div-rest : goal.nonzero_div-rest
nonzero_div-rest c =
    (IsNextPlace-read c.args.orders.now c.loop-player.profile c.args.rank c.loop-player.player c.loop-player.later c.loop-player.rest c.len-later.result c.index-orders-player.result c.loop-player-test.true c.index-orders-player.is c.len-later.ensures c.loop-player.invariant).some_later

pub nonzero_rem-rest : goal.nonzero_rem-rest
nonzero_rem-rest c =
    (IsNextPlace-read c.args.orders.now c.loop-player.profile c.args.rank c.loop-player.player c.loop-player.later c.loop-player.rest c.len-later.result c.index-orders-player.result c.loop-player-test.true c.index-orders-player.is c.len-later.ensures c.loop-player.invariant).some_later

pub index-requires : goal.index-requires
index-requires c =
    let next = IsNextPlace-read c.args.orders.now c.loop-player.profile c.args.rank c.loop-player.player c.loop-player.later c.loop-player.rest c.len-later.result c.index-orders-player.result c.loop-player-test.true c.index-orders-player.is c.len-later.ensures c.loop-player.invariant in
    place-read c.args.orders.now c.args.rank c.loop-player.player c.loop-player.later c.loop-player.rest c.len-later.result c.index-orders-player.result c.index-orders-player-in-loop-player.result (omega (arith, c.requires.profiles, c.requires.rank)) c.loop-player-test.true c.index-orders-player.is c.len-later.ensures c.index-orders-player-in-loop-player.is next

pub loop-player-preserved : goal.loop-player-preserved
loop-player-preserved c =
    let orders = map (λ v. v.items) c.args.orders.now in
    let next = IsNextPlace-read c.args.orders.now c.loop-player.profile c.args.rank c.loop-player.player c.loop-player.later c.loop-player.rest c.len-later.result c.index-orders-player.result c.loop-player-test.true c.index-orders-player.is c.len-later.ensures c.loop-player.invariant in
    let within = place-read c.args.orders.now c.args.rank c.loop-player.player c.loop-player.later c.loop-player.rest c.len-later.result c.index-orders-player.result c.index-orders-player-in-loop-player.result (omega (arith, c.requires.profiles, c.requires.rank)) c.loop-player-test.true c.index-orders-player.is c.len-later.ensures c.index-orders-player-in-loop-player.is next in
    let value = value-at c.args.orders.now c.loop-player.player _ c.index.result.now c.index-orders-player-in-loop-player.result c.loop-player-test.true c.index-orders-player-in-loop-player.is within c.index.ensures in
    IsWrittenBelow-next orders (ranked (map length orders) c.args.rank) c.loop-player.profile c.loop-player.player c.loop-player.later c.loop-player.rest c.len-later.result c.index.result.now (omega (arith, c.requires.players)) next value c.loop-player.invariant

pub returns : goal.returns
returns c = IsWrittenBelow-all (map (λ v. v.items) c.args.orders.now) c.loop-player.profile c.args.rank c.loop-player.player c.loop-player.later c.loop-player.rest (omega (arith, c.requires.players, length-map c.args.orders.now (λ v. v.items))) (omega (arith, length-map c.args.orders.now (λ v. v.items))) c.loop-player.invariant
