use Rattle.std.proofs.Common.{List, ◌≡◌, ◌∙◌, IsPermutation, length, map, arith, ap, sym, subst, subst₂}
use Rattle.std.specs.Prelude.{IsSortedBy}
use Rattle.std.proofs.lemmas.List.Sorted.{length_permutation}
use Rattle.std.specs.Ordering.{is_lt}
use Rattle.rational.specs.Rational.{ℚ}
use Rattle.enummixed.specs.Order.{pair_order, IsTextInOrder}
use Rattle.enummixed.proofs.VertexPairLemmas.{within-weaker, written-over}
use Rattle.enummixed.proofs.listing.text_in_order.Goals as goal

pub returns : goal.returns
returns c =
    let firsts : List (List ℚ) = map (λ v. v.items) c.args.firsts.now in
    let seconds : List (List ℚ) = map (λ v. v.items) c.args.seconds.now in
    let before : c.deref_mut.result.now ≡ c.args.pairs.items = c.deref_mut.ensures.value in
    let long : length c.sort_pairs.new.pairs ≡ length c.args.pairs.items = length_permutation _ _ c.sort_pairs.ensures.permutation ∙ ap length before in
    let after : c.sort_pairs.new.pairs ≡ c.deref.result.now = sym (c.deref.ensures.value ∙ written-over c.sort_pairs.new.pairs c.args.pairs.items c.args.pairs.len long (omega (arith, c.args.pairs.ok.0))) in
    within-weaker _ (IsTextInOrder c.args.pairs.items firsts seconds (map (λ v. v.items) c.args.wide_firsts.now) (map (λ v. v.items) c.args.wide_seconds.now))
    (λ text e. record {
      sorted = c.deref.result.now;
      permutation = subst₂ IsPermutation before after c.sort_pairs.ensures.permutation;
      in_order = subst (IsSortedBy (λ p q. is_lt (pair_order firsts seconds p q))) after c.in_ok-sort_pairs.ensures.sorted;
      is_text = e;
    }) _ c.write_lines.ensures
