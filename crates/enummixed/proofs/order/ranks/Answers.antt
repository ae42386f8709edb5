use Rattle.std.proofs.Common.{ℕ, ◌≡◌, ◌∙◌, List, [], length, get_or, map, replicate, refl, sym, ap, ap₂, subst, arith}
use Rattle.std.specs.Ordering.{is_lt}
use Rattle.std.specs.Cmp.Lexicographic.{slice_cmp}
use Rattle.std.proofs.lemmas.List.{get_or_past, length-map}
use Rattle.rational.specs.Rational.{ℚ}
use Rattle.enummixed.specs.Order.{greater_first, ArePlacesInOrder}
use Rattle.enummixed.proofs.RankLemmas.{IsRanked, ranked-none, ranked-next, ranked-all, places-within}
use Rattle.enummixed.proofs.order.ranks.Goals as goal

pub loop-place-init : goal.loop-place-init
loop-place-init c =
    let points : List (List ℚ) = map (λ v. v.items) c.args.points.now in
    let places : List ℕ = c.deref-place-items.result.now in
    let long : length points ≡ length c.args.points.now = length-map c.args.points.now (λ v. v.items) in
    (length points, subst (λ ranks. IsRanked points places 0 ranks (length points) 0) (ap (λ n. replicate n 0) long ∙ sym ((c.in_ok-ranks.ensures {u = tt}).items_if_clones_equal (λ y h. h))) (ranked-none points places), sym (get_or_past points (length points) [] (omega arith)))

pub next_rank-rank-requires-clause-small : goal.next_rank-rank-requires-clause-small
next_rank-rank-requires-clause-small c =
    omega (arith, c.loop-place.invariant.1.few, c.loop-place-test.true, c.deref-place-items.ensures.len, c.in_ok-places.places.small, c.in_ok-places.places.ok.0)

pub next_rank-rank-requires-clause-order : goal.next_rank-rank-requires-clause-order
next_rank-rank-requires-clause-order c =
    ap₂ (λ x y. is_lt (slice_cmp greater_first x y)) c.point-next.ensures c.loop-place.invariant.2 ∙ c.loop-place.invariant.1.next c.loop-place-test.true

pub index_mut-requires : goal.index_mut-requires
index_mut-requires c =
    let points : List (List ℚ) = map (λ v. v.items) c.args.points.now in
    let places : List ℕ = c.deref-place-items.result.now in
    let ordered : ArePlacesInOrder points places = subst (ArePlacesInOrder points) (sym c.deref-place-items.ensures.value) c.in_ok-places.ensures in
    omega (arith, places-within points places ordered c.loop-place.place-index 0 c.loop-place-test.true, c.loop-place.invariant.1.size, c.loop-place.ranks.ok.0)

pub loop-place-preserved : goal.loop-place-preserved
loop-place-preserved c =
    let points : List (List ℚ) = map (λ v. v.items) c.args.points.now in
    let places : List ℕ = c.deref-place-items.result.now in
    let ordered : ArePlacesInOrder points places = subst (ArePlacesInOrder points) (sym c.deref-place-items.ensures.value) c.in_ok-places.ensures in
    let place : ℕ = get_or places c.loop-place.place-index 0 in (
      place,
      ranked-next points places ordered c.loop-place.place-index c.loop-place.ranks.items c.loop-place.invariant.0 c.loop-place.rank place c.next_rank-rank.result c.loop-place-test.true refl
          (c.next_rank-rank.ensures.compare ∙ ap₂ (slice_cmp greater_first) c.loop-place.invariant.2 c.point-next.ensures) c.next_rank-rank.ensures.from c.next_rank-rank.ensures.up_to c.loop-place.invariant.1,
      c.point-next.ensures,
    )

pub returns : goal.returns
returns c =
    let points : List (List ℚ) = map (λ v. v.items) c.args.points.now in
    let places : List ℕ = c.deref-place-items.result.now in
    let ordered : ArePlacesInOrder points places = subst (ArePlacesInOrder points) (sym c.deref-place-items.ensures.value) c.in_ok-places.ensures in
    ranked-all points places ordered c.loop-place.place-index c.loop-place.ranks.items c.loop-place.invariant.0 c.loop-place.rank (omega (arith, c.loop-place-test.false)) c.loop-place.invariant.1
