use Rattle.std.proofs.Common.{suc, ◌-◌, ◌<◌, ◌≡◌, None, length, map, min, get_or, sym, ap, ◌∙◌, subst, arith}
use Rattle.std.proofs.lemmas.List.{length-map}
use Rattle.std.proofs.lemmas.Option.{slice_get-get_or}
use Rattle.strategy_lists.specs.declared.decision.Decision.{Decision}
use Rattle.strategy_lists.proofs.WayCountLemmas.{AreAfter, is_first, ways_where}
use Rattle.strategy_lists.proofs.WayProductLemmas.{all_ends-counted}
use Rattle.strategy_lists.proofs.WayCountLemmas.{first-start, first-more, first-stays, ways-summed, edge-before, AreAfter-first, AreAfter-multiplied, AreAfter-ones}
use Rattle.strategy_lists.proofs.count.count_apart.Goals as goal

-- a decision where there is none
abbrev none_there : Decision
none_there = record { place = 0; before = None }

pub loop-left-init : goal.loop-left-init
loop-left-init c = record {
  within = omega arith;
  following = AreAfter-ones (λ v. v.items) c.args.decisions.now c.args.actions.now c.args.limit c.in_ok-following.following.items c.requires.limit c.in_ok-following.ensures;
  first = first-start c.args.decisions.now c.args.actions.now c.args.limit is_first c.requires.limit;
}

pub loop-left-preserved-in-None : goal.loop-left-preserved-in-None
loop-left-preserved-in-None c =
    let m = c.loop-left.left - 1 in
    let next : c.loop-left.left ≡ suc m = omega arith in
    let within : m < length c.args.decisions.now = omega (arith, c.loop-left.invariant.within) in
    let d = get_or c.args.decisions.now m none_there in
    let at = slice_get-get_or c.args.decisions.now m none_there within in
    let following = subst (λ v. AreAfter c.args.decisions.now c.args.actions.now v c.args.limit (map (λ v. v.items) c.loop-left.following.items)) next c.loop-left.invariant.following in
    let ways = ways-summed (λ v. v.items) c.args.decisions.now c.args.actions.now m c.args.limit c.sum-ways.result c.loop-left.following.items d c.index.result.now c.deref.result.now following at c.index.ensures c.deref.ensures.value c.sum-ways.ensures in
    record {
      within = omega (arith, c.loop-left.invariant.within);
      following = AreAfter-first c.args.decisions.now c.args.actions.now m c.args.limit _ d at c.in-None.is following;
      first = c.product-first.ensures ∙ first-more c.args.decisions.now c.args.actions.now m c.args.limit c.loop-left.first c.sum-ways.result d c.requires.limit at c.in-None.is ways (c.loop-left.invariant.first ∙ ap (λ v. min (ways_where c.args.decisions.now c.args.actions.now v is_first) c.args.limit) next);
    }

pub index_mut-products-requires : goal.index_mut-products-requires
index_mut-products-requires c =
    let m = c.loop-left.left - 1 in
    let within : m < length c.args.decisions.now = omega (arith, c.loop-left.invariant.within) in
    let at = slice_get-get_or c.args.decisions.now m none_there within in
    let earlier = edge-before c.args.decisions.now c.args.actions.now m (get_or c.args.decisions.now m none_there) c.in-Some.edge c.requires.linked at c.in-Some.is in
    omega (arith, earlier, within, c.loop-left.invariant.following.one_for_each, length-map c.loop-left.following.items (λ v. v.items))

pub loop-left-preserved : goal.loop-left-preserved
loop-left-preserved c =
    let m = c.loop-left.left - 1 in
    let next : c.loop-left.left ≡ suc m = omega arith in
    let within : m < length c.args.decisions.now = omega (arith, c.loop-left.invariant.within) in
    let d = get_or c.args.decisions.now m none_there in
    let at = slice_get-get_or c.args.decisions.now m none_there within in
    let following = subst (λ v. AreAfter c.args.decisions.now c.args.actions.now v c.args.limit (map (λ v. v.items) c.loop-left.following.items)) next c.loop-left.invariant.following in
    let ways = ways-summed (λ v. v.items) c.args.decisions.now c.args.actions.now m c.args.limit c.sum-ways.result c.loop-left.following.items d c.index.result.now c.deref.result.now following at c.index.ensures c.deref.ensures.value c.sum-ways.ensures in
    let earlier = edge-before c.args.decisions.now c.args.actions.now m d c.in-Some.edge c.requires.linked at c.in-Some.is in
    record {
      within = omega (arith, c.loop-left.invariant.within);
      following = AreAfter-multiplied (λ v. v.items) c.args.decisions.now c.args.actions.now m c.args.limit c.sum-ways.result c.loop-left.following.items d c.in-Some.edge c.index_mut-products.result.now c.multiply.new.products at c.in-Some.is following c.requires.limit ways (omega (arith, earlier, following.one_for_each, length-map c.loop-left.following.items (λ v. v.items))) c.index_mut-products.ensures.value c.multiply.ensures;
      first = first-stays c.args.decisions.now c.args.actions.now m c.args.limit c.loop-left.first d c.in-Some.edge at c.in-Some.is (c.loop-left.invariant.first ∙ ap (λ v. min (ways_where c.args.decisions.now c.args.actions.now v is_first) c.args.limit) next);
    }

pub returns : goal.returns
returns c =
    let start : c.loop-left.left ≡ 0 = omega arith in
    c.loop-left.invariant.first ∙ ap (λ v. min (ways_where c.args.decisions.now c.args.actions.now v is_first) c.args.limit) start ∙ ap (λ v. min v c.args.limit) (sym (all_ends-counted c.args.decisions.now c.args.actions.now c.requires.linked c.requires.apart))
