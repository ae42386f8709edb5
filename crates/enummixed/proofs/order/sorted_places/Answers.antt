use Rattle.std.proofs.Common.{◌≡◌, IsPermutation, Ok, List, length, map, refl, subst, arith, rules}
use Rattle.std.specs.List.{range_with_len}
use Rattle.std.specs.Ordering.{is_lt}
use Rattle.std.proofs.lemmas.Fn.{always_returns_same}
use Rattle.std.proofs.lemmas.Iterator.{items_from_collect, YieldsList-from_range}
use Rattle.std.proofs.lemmas.List.{length-map}
use Rattle.rational.specs.Rational.{ℚ}
use Rattle.enummixed.specs.Order.{place_order}
use Rattle.enummixed.proofs.LineOrderLemmas.{places-ordered}
use Rattle.enummixed.proofs.order.sorted_places.Goals as goal

pub returns : goal.returns
returns c =
    let points : List (List ℚ) = map (λ v. v.items) c.args.points.now in
    let all : c.in_ok-places.places.items ≡ range_with_len 0 (length points) =
    items_from_collect {E = Unit {0}} (Ok c.in_ok-places.places) c.in_ok-places.ensures.ran (YieldsList-from_range 0 (length c.args.points.now) (length points) refl (omega (arith, length-map c.args.points.now (λ v. v.items)))) in
    record {
      permutation = subst (λ places. IsPermutation places c.sort_unstable_by.new.self.items) all c.sort_unstable_by.ensures.permutation;
      sorted = c.sort_unstable_by.ensures.sorted (λ i j. is_lt (place_order points i j)) (places-ordered points) (always_returns_same _ _ _ (λ a r q k. search rules));
    }
