use Rattle.std.proofs.Common.{ℕ, ◌≡◌, ◌<◌, ◌∙◌, List, All, rules, ◌++◌, ◌∷◌, [], true, false, length, map, sym, ap, subst, arith}
use Rattle.std.proofs.lemmas.List.{length-map, map_push}
use Rattle.std.proofs.lemmas.Result.{err_from_is_err_and}
use Rattle.std.specs.List.{filter, range_with_len}
use Rattle.rational.specs.Rational.{ℚ}
use Rattle.basis_enum.specs.Vertices.{mark_of, marks_of}
use Rattle.extreme_equilibria.specs.PairLines.{scaled_point}
use Rattle.frac128.specs.FirstUnfit.{StepsFit}
use Rattle.label_pairing.specs.Pairs.{mark_at}
use Rattle.label_pairing.specs.Scaling.{IsScalable, scale_steps}
use Rattle.label_pairing.proofs.StopLemmas.{scaled_fits, scaled_is}
use Rattle.enummixed.specs.Used.{is_set}
use Rattle.enummixed.proofs.UsedPointLemmas.{point-read, fit-next, fit-same, scaled-next, stop_here}
use Rattle.enummixed.proofs.points.scaled_points.Goals as goal
use Rattle.enummixed.proofs.points.scaled_points.Goals.{then-used-i+in_ok-scale+in_ok-push, else-used-i+in_ok-push-2}

pub scale-requires : goal.scale-requires
scale-requires c =
    subst IsScalable (sym (point-read c.args.vertices.now c.loop-i.i c.index-vertices-i.result c.loop-i-test.true c.index-vertices-i.is)) (c.requires.scalable c.loop-i.i c.loop-i-test.true)

pub returns-in_err-scale-clause-fit : goal.returns-in_err-scale-clause-fit
returns-in_err-scale-clause-fit c =
    let p = err_from_is_err_and c.from_residual-in_err-scale.result c.from_residual-in_err-scale.ensures.1 in
    rw (p.1, p.2) (stop_here (marks_of c.args.vertices.now) (is_set c.args.used.now) c.loop-i.i c.index-vertices-i.result.point.items c.in_err-scale.field-0.0 (subst (λ n. c.loop-i.i < n) (sym (length-map c.args.vertices.now mark_of)) c.loop-i-test.true) c.if-used-i.true c.loop-i.invariant.fit (point-read c.args.vertices.now c.loop-i.i c.index-vertices-i.result c.loop-i-test.true c.index-vertices-i.is) c.in_err-scale.ensures)

pub loop-i-preserved : goal.loop-i-preserved
loop-i-preserved c =
    let vs = c.args.vertices.now in
    let used = is_set c.args.used.now in
    let n = c.loop-i.i in
    let xs = c.loop-i.points.items in
    let point : ℕ → List ℚ = λ i. (mark_at (marks_of vs) i).point in
    elim c.if-used-i.branch [
      | then-used-i+in_ok-scale+in_ok-push w ↦
          let push : c.if-used-i.points.items ≡ xs ++ w.in_ok-scale.field-0 ∷ [] = ap (λ v. v.items) w.points-is ∙ w.in_ok-push.ensures.items in
          let read = point-read vs n w.index-vertices-i.result c.loop-i-test.true w.index-vertices-i.is in
          record {
            fit = fit-next point used n w.if-used-i.true c.loop-i.invariant.fit (subst (StepsFit scale_steps) read (scaled_fits w.index-vertices-i.result.point.items w.in_ok-scale.field-0.items w.in_ok-scale.ensures));
            scaled = scaled-next point used n (map (λ v. v.items) xs) (map (λ v. v.items) c.if-used-i.points.items) w.in_ok-scale.field-0.items true w.if-used-i.true c.loop-i.invariant.scaled (ap (map (λ v. v.items)) push ∙ map_push (λ v. v.items) xs w.in_ok-scale.field-0) (scaled_is w.index-vertices-i.result.point.items w.in_ok-scale.field-0.items w.in_ok-scale.ensures ∙ ap scaled_point read);
          }
      | else-used-i+in_ok-push-2 w ↦
          let push : c.if-used-i.points.items ≡ xs ++ w.new.result ∷ [] = ap (λ v. v.items) w.points-is ∙ w.in_ok-push-2.ensures.items in
          record {
            fit = fit-same point used n w.if-used-i.false c.loop-i.invariant.fit;
            scaled = scaled-next point used n (map (λ v. v.items) xs) (map (λ v. v.items) c.if-used-i.points.items) w.new.result.items false w.if-used-i.false c.loop-i.invariant.scaled (ap (map (λ v. v.items)) push ∙ map_push (λ v. v.items) xs w.new.result) (search rules);
          }
    ]

pub returns-clause-fit : goal.returns-clause-fit
returns-clause-fit c =
    let vs = marks_of c.args.vertices.now in
    let end : c.loop-i.i ≡ length vs = omega (arith, length-map c.args.vertices.now mark_of) in
    subst (λ n. All (StepsFit scale_steps) (map (λ i. (mark_at vs i).point) (filter (is_set c.args.used.now) (range_with_len 0 n)))) end c.loop-i.invariant.fit
