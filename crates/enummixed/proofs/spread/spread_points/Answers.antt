use Rattle.std.proofs.Common.{ℕ, ◌≡◌, ◌++◌, ◌∷◌, ◌∙◌, List, [], length, map, get_or, sym, ap, subst, arith}
use Rattle.std.proofs.lemmas.List.{get_or-map, length-map, map_push}
use Rattle.rational.specs.Rational.{ℚ}
use Rattle.enummixed.proofs.SpreadPointLemmas.{count-next, spread-next}
use Rattle.extreme_equilibria.specs.KeptTable.{IsSpreadPoint}
use Rattle.enummixed.proofs.spread.spread_points.Goals as goal
use Rattle.enummixed.proofs.spread.spread_points.Goals.{then-len-places+in_ok-spread+in_ok-push, else-len-places+in_ok-push-2}

pub loop-i-preserved : goal.loop-i-preserved
loop-i-preserved c =
    let i = c.loop-i.i in
    let places : List ℕ = c.args.places.now in
    let points : List (List ℚ) = map (λ v. v.items) c.args.points.now in
    let wide : List (List ℚ) = map (λ v. v.items) c.loop-i.wide.items in
    let new : List (List ℚ) = map (λ v. v.items) c.if-len-places.wide.items in
    let read : get_or points i [] ≡ c.index-points-i.result.items = get_or-map (λ v. v.items) c.args.points.now i c.index-points-i.result [] c.loop-i-test.true ∙ ap (λ v. v.items) (sym c.index-points-i.is) in
    elim c.if-len-places.branch [
      | then-len-places+in_ok-spread+in_ok-push w ↦
          let same : w.index-points-i-then-len-places.result.items ≡ get_or points i [] = sym (get_or-map (λ v. v.items) c.args.points.now i w.index-points-i-then-len-places.result [] c.loop-i-test.true ∙ ap (λ v. v.items) (sym w.index-points-i-then-len-places.is)) in
          let push : new ≡ wide ++ w.in_ok-spread.field-0.items ∷ [] = ap (λ v. map (λ v. v.items) v.items) w.wide-is ∙ ap (map (λ v. v.items)) (w.in_ok-push.ensures {u = tt}).items ∙ map_push (λ v. v.items) c.loop-i.wide.items w.in_ok-spread.field-0 in
          record {
            count = count-next c.args.size places points wide new i c.index-points-i.result.items w.in_ok-spread.field-0.items read c.loop-i.invariant.count push;
            each = spread-next c.args.size places points wide new i c.index-points-i.result.items w.in_ok-spread.field-0.items read c.loop-i.invariant.count push c.loop-i.invariant.each
                (record {
                  spread = λ _. subst (λ p. IsSpreadPoint c.args.size places p w.in_ok-spread.field-0.items) (w.deref.ensures.value ∙ same ∙ read) (w.in_ok-spread.ensures {u = tt});
                  empty = λ e. absurd (e (omega (arith, w.if-len-places.true, c.len.ensures, c.index-points-i.result.ok.0)));
                });
          }
      | else-len-places+in_ok-push-2 w ↦
          let push : new ≡ wide ++ w.new.result.items ∷ [] = ap (λ v. map (λ v. v.items) v.items) w.wide-is ∙ ap (map (λ v. v.items)) (w.in_ok-push-2.ensures {u = tt}).items ∙ map_push (λ v. v.items) c.loop-i.wide.items w.new.result in
          record {
            count = count-next c.args.size places points wide new i c.index-points-i.result.items w.new.result.items read c.loop-i.invariant.count push;
            each = spread-next c.args.size places points wide new i c.index-points-i.result.items w.new.result.items read c.loop-i.invariant.count push c.loop-i.invariant.each
                (record {
                  spread = λ e. absurd (w.if-len-places.false (omega (arith, e, c.len.ensures, c.index-points-i.result.ok.0)));
                  empty = λ _. w.new.ensures.items;
                });
          }
    ]

pub returns : goal.returns
returns c =
    let points : List (List ℚ) = map (λ v. v.items) c.args.points.now in
    let long : length points ≡ length c.args.points.now = length-map c.args.points.now (λ v. v.items) in
    record {
      count = c.loop-i.invariant.count ∙ omega (arith, long, c.loop-i-test.false, c.loop-i.auto.i-end);
      each = λ j l. c.loop-i.invariant.each j (omega (arith, l, long, c.loop-i-test.false));
    }
