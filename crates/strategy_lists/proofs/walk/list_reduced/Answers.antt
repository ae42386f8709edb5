use Rattle.std.proofs.Common.{◌++◌, length, map, ap, ◌∙◌, arith}
use Rattle.std.proofs.lemmas.List.Elements.{same_from_all_zip}
use Rattle.strategy_lists.proofs.WalkTurnLemmas.{left, IsTurn-made, kept-more, walks_kept}
use Rattle.strategy_lists.proofs.walk.list_reduced.Goals as goal

pub loop-from-smaller : goal.loop-from-smaller
loop-from-smaller c =
    let turn = IsTurn-made c.loop-from.walk c.forward.new.self c.back-from.new.self c.in-Some.number c.back-from.result c.in_ok-forward.ensures c.back-from.ensures in
    let seen = ap (left c.loop-from.walk) c.in-Some.is ∙ turn.ends in
    omega (arith, ap length seen)

pub loop-from-preserved : goal.loop-from-preserved
loop-from-preserved c =
    let turn = IsTurn-made c.loop-from.walk c.forward.new.self c.back-from.new.self c.in-Some.number c.back-from.result c.in_ok-forward.ensures c.back-from.ensures in
    let seen = ap (left c.loop-from.walk) c.in-Some.is ∙ turn.ends in
    let cloned = same_from_all_zip _ _ _ c.in_ok-clone.ensures.cases.0 (λ x y h. h) in
    record {
      at = turn.next_at;
      ends = kept-more (λ v. v.items) _ c.loop-from.lists.items c.push.new.self.items c.in_ok-clone.field-0 c.forward.new.self.choices.items (left c.back-from.new.self c.back-from.result)
          (c.loop-from.invariant.ends ∙ ap (λ v. map (λ w. w.items) c.loop-from.lists.items ++ v) seen) c.in_ok-push.ensures.items cloned;
    }

pub returns : goal.returns
returns c =
    let none = ap (left c.loop-from.walk) c.in_default.is in
    walks_kept (λ v. v.items) c.args.decisions.now c.args.actions.now c.loop-from.lists.items c.sort.new.self.items c.requires.linked
    (c.loop-from.invariant.ends ∙ ap (λ v. map (λ w. w.items) c.loop-from.lists.items ++ v) none) c.in_ok-sort.ensures.permutation c.in_ok-sort.ensures.sorted
