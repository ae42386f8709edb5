use Rattle.std.proofs.Common.{◌≡◌, ◌<◌, ◌∙◌, length, get_or, replicate, ap, refl, arith}
use Rattle.std.proofs.lemmas.List.{get_or_default, length-set, length-replicate}
use Rattle.lists.proofs.ElementLemmas.{get_or-copies}
use Rattle.rational.specs.Rational.{zero_ℚ}
use Rattle.enummixed.proofs.SpreadPointLemmas.{placed-next, elsewhere-next}
use Rattle.enummixed.proofs.spread.spread.Goals as goal

pub loop-k-init : goal.loop-k-init
loop-k-init c =
    let items : c.in_ok-wide.wide.items ≡ replicate c.args.size zero_ℚ = (c.in_ok-wide.ensures {u = tt}).items_if_clones_equal (λ y h. h) ∙ ap (replicate c.args.size) c.zero.ensures in
    record {
      size = ap length items ∙ length-replicate c.args.size zero_ℚ;
      at_places = λ j l. absurd (omega (arith, l));
      elsewhere = λ s none. ap (λ xs. get_or xs s zero_ℚ) items ∙ get_or-copies c.args.size s zero_ℚ;
    }

pub loop-k-preserved : goal.loop-k-preserved
loop-k-preserved c =
    let k = c.loop-k.k in
    let wide = c.loop-k.wide.items in
    let places = c.args.places.now in
    let entry = c.index-point-k.result in
    let is : entry ≡ get_or c.args.point.now k zero_ℚ = c.index-point-k.is ∙ get_or_default c.args.point.now k entry zero_ℚ (omega (arith, c.loop-k-test.true, c.requires.entries)) in
    let inside : get_or places k 0 < length wide = omega (arith, c.requires.within k 0 c.loop-k-test.true, c.loop-k.invariant.size) in
    record {
      size = length-set wide (get_or places k 0) entry ∙ c.loop-k.invariant.size;
      at_places = placed-next places c.requires.ascending c.args.point.now wide k (get_or places k 0) entry c.loop-k-test.true refl is inside c.loop-k.invariant.at_places;
      elsewhere = elsewhere-next places c.requires.ascending c.args.point.now wide k (get_or places k 0) entry c.loop-k-test.true refl is inside c.loop-k.invariant.elsewhere;
    }
