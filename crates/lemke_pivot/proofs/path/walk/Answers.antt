use Rattle.std.proofs.Common.{◌≢◌, ◌+◌, ◌<◌, add-one, suc, refl, sym, ap, ◌∙◌, subst, length, Some, true≢false, arith}
use Rattle.rational.specs.Rational.{zero_ℚ}
use Rattle.rational.proofs.InverseLemmas.{ne_zero_of_pos}
use Rattle.linear_systems.specs.Rows.{basic_solution}
use Rattle.lists.specs.Listed.{IsIndexOf}
use Rattle.lex_tableau.specs.Pivots.{pivot_number}
use Rattle.lex_tableau.proofs.PivotNumberLemmas.{pivot_number_next}
use Rattle.lex_tableau.specs.Rows.{WholeTableau, tableau}
use Rattle.lemke_pivot.specs.ProblemPaths.{complement, z0_of}
use Rattle.lemke_pivot.proofs.KeptWalkLemmas.{z0_entry, walk_value, walk_bound, walk_solved, walk_stands, walk_variable, walk_best, walk_never, walk_next, walk_stops}
use Rattle.lemke_pivot.proofs.path.walk.Goals as goal

pub pivot-requires-clause-entry : goal.pivot-requires-clause-entry
pivot-requires-clause-entry g c = z0_entry c.args.size c.args.first c.args.work.now c.requires.start

pub returns-then-is_zero-clause-solved : goal.returns-then-is_zero-clause-solved
returns-then-is_zero-clause-solved g c =
    let l = c.loop-size in let o = l.invariant.path in
    let v = walk_value c.args.size c.args.first c.args.work.now c.requires.start l.work l.entering c.args.pivots.now l.pivots l.step o c.now.result.now (c.args.size + c.args.size + 1) c.value.result c.now.ensures.value (omega arith) c.value.ensures.value in
    walk_solved c.args.size c.args.first c.args.work.now c.requires.start l.work l.entering c.args.pivots.now l.pivots l.step o (sym v ∙ c.is_zero.ensures.0 c.if-is_zero.true)

pub unreachable-requires : goal.unreachable-requires
unreachable-requires g c =
    let l = c.loop-size in let o = l.invariant.path in
    let v = walk_value c.args.size c.args.first c.args.work.now c.requires.start l.work l.entering c.args.pivots.now l.pivots l.step o c.now.result.now (c.args.size + c.args.size + 1) c.value.result c.now.ensures.value (omega arith) c.value.ensures.value in
    walk_stands c.args.size c.args.first c.args.work.now c.requires.start l.work l.entering c.args.pivots.now l.pivots l.step o (λ e. true≢false (sym (c.is_zero.ensures.1 (v ∙ e)) ∙ c.if-is_zero.false)) c.now-in-loop-size.result.now c.now-in-loop-size.ensures.value c.in_default-column_of.ensures.column

pub unreachable-requires-in_default-ratio_row : goal.unreachable-requires-in_default-ratio_row
unreachable-requires-in_default-ratio_row g c =
    let l = c.loop-size in let o = l.invariant.path in
    let v = walk_value c.args.size c.args.first c.args.work.now c.requires.start l.work l.entering c.args.pivots.now l.pivots l.step o c.now.result.now (c.args.size + c.args.size + 1) c.value.result c.now.ensures.value (omega arith) c.value.ensures.value in
    let ne : basic_solution (tableau l.work) (z0_of c.args.size) ≢ zero_ℚ = λ e. true≢false (sym (c.is_zero.ensures.1 (v ∙ e)) ∙ c.if-is_zero.false) in
    let column : IsIndexOf l.work.nonbasics l.entering (Some c.in-Some.column) = subst (λ (m : WholeTableau). IsIndexOf m.nonbasics l.entering (Some c.in-Some.column)) c.now-in-loop-size.ensures.value c.in-Some.ensures.column in
    walk_never c.args.size c.args.first c.args.work.now c.requires.start l.work l.entering c.args.pivots.now l.pivots l.step o ne c.now-in-loop-size-2.result.now c.in-Some.column c.now-in-loop-size-2.ensures.value column c.in_default-ratio_row.ensures.best

pub pivot-requires-in-loop-size-clause-entry : goal.pivot-requires-in-loop-size-clause-entry
pivot-requires-in-loop-size-clause-entry g c =
    let l = c.loop-size in let o = l.invariant.path in
    let v = walk_value c.args.size c.args.first c.args.work.now c.requires.start l.work l.entering c.args.pivots.now l.pivots l.step o c.now.result.now (c.args.size + c.args.size + 1) c.value.result c.now.ensures.value (omega arith) c.value.ensures.value in
    let ne : basic_solution (tableau l.work) (z0_of c.args.size) ≢ zero_ℚ = λ e. true≢false (sym (c.is_zero.ensures.1 (v ∙ e)) ∙ c.if-is_zero.false) in
    let L = walk_best c.args.size c.args.first c.args.work.now c.requires.start l.work l.entering c.args.pivots.now l.pivots l.step o ne c.now-in-loop-size-2.result.now c.in-Some.column c.in-Some-ratio_row.row c.now-in-loop-size-2.ensures.value c.in-Some-ratio_row.ensures.best in
    ne_zero_of_pos ((tableau l.work).cell c.in-Some-ratio_row.row c.in-Some.column) L.positive

pub returns-in-Err-pivot-clause-unfit : goal.returns-in-Err-pivot-clause-unfit
returns-in-Err-pivot-clause-unfit g c =
    let l = c.loop-size in let o = l.invariant.path in
    let v = walk_value c.args.size c.args.first c.args.work.now c.requires.start l.work l.entering c.args.pivots.now l.pivots l.step o c.now.result.now (c.args.size + c.args.size + 1) c.value.result c.now.ensures.value (omega arith) c.value.ensures.value in
    let ne : basic_solution (tableau l.work) (z0_of c.args.size) ≢ zero_ℚ = λ e. true≢false (sym (c.is_zero.ensures.1 (v ∙ e)) ∙ c.if-is_zero.false) in
    let column : IsIndexOf l.work.nonbasics l.entering (Some c.in-Some.column) = subst (λ (m : WholeTableau). IsIndexOf m.nonbasics l.entering (Some c.in-Some.column)) c.now-in-loop-size.ensures.value c.in-Some.ensures.column in
    walk_stops c.args.size c.args.first c.args.work.now c.requires.start l.work l.entering c.args.pivots.now l.pivots l.step o ne c.in-Some.column c.in-Some-ratio_row.row column
    (walk_best c.args.size c.args.first c.args.work.now c.requires.start l.work l.entering c.args.pivots.now l.pivots l.step o ne c.now-in-loop-size-2.result.now c.in-Some.column c.in-Some-ratio_row.row c.now-in-loop-size-2.ensures.value c.in-Some-ratio_row.ensures.best)
    c.saturating_add-step.result c.in-Err-pivot.unfit (c.saturating_add-step.ensures ∙ ap pivot_number (add-one l.step) ∙ ap (λ k. pivot_number (suc k)) o.number ∙ pivot_number_next (suc (length o.earlier))) c.in-Err-pivot.ensures.unfit

pub returns-then-is_zero-clause-path : goal.returns-then-is_zero-clause-path
returns-then-is_zero-clause-path g c = let o = c.loop-size.invariant.path in (suc (length o.earlier), sym o.counts, (o.earlier, c.loop-size.entering, o.path, refl))

pub returns-then-is_zero-clause-cost : goal.returns-then-is_zero-clause-cost
returns-then-is_zero-clause-cost g c =
    let l = c.loop-size in let b = walk_bound c.args.size c.args.first c.args.work.now c.requires.start l.work l.entering c.args.pivots.now l.pivots l.step l.invariant.path in
    omega (arith, b)

pub returns-in-Err-clause-counted : goal.returns-in-Err-clause-counted
returns-in-Err-clause-counted g c = (1, c.pivot.ensures.counted, refl)

pub returns-in-Err-clause-cost : goal.returns-in-Err-clause-cost
returns-in-Err-clause-cost g c = let e = c.pivot.ensures.counted in omega (arith, e)

pub returns-in-Err-pivot-clause-counted : goal.returns-in-Err-pivot-clause-counted
returns-in-Err-pivot-clause-counted g c =
    let l = c.loop-size in let o = l.invariant.path in let e = o.counts in let f = c.pivot-in-loop-size.ensures.counted in
    (suc (suc (length o.earlier)), omega (arith, e, f), c.saturating_add-step.ensures ∙ ap pivot_number (add-one l.step) ∙ ap (λ k. pivot_number (suc k)) o.number ∙ pivot_number_next (suc (length o.earlier)))

pub returns-in-Err-pivot-clause-cost : goal.returns-in-Err-pivot-clause-cost
returns-in-Err-pivot-clause-cost g c =
    let l = c.loop-size in let b = walk_bound c.args.size c.args.first c.args.work.now c.requires.start l.work l.entering c.args.pivots.now l.pivots l.step l.invariant.path in
    let e = c.pivot-in-loop-size.ensures.counted in
    omega (arith, b, e)

pub complement_of-entering-requires-clause-positive : goal.complement_of-entering-requires-clause-positive
complement_of-entering-requires-clause-positive g c =
    let l = c.loop-size in let o = l.invariant.path in
    let v = walk_value c.args.size c.args.first c.args.work.now c.requires.start l.work l.entering c.args.pivots.now l.pivots l.step o c.now.result.now (c.args.size + c.args.size + 1) c.value.result c.now.ensures.value (omega arith) c.value.ensures.value in
    let ne : basic_solution (tableau l.work) (z0_of c.args.size) ≢ zero_ℚ = λ e. true≢false (sym (c.is_zero.ensures.1 (v ∙ e)) ∙ c.if-is_zero.false) in
    let L = walk_best c.args.size c.args.first c.args.work.now c.requires.start l.work l.entering c.args.pivots.now l.pivots l.step o ne c.now-in-loop-size-2.result.now c.in-Some.column c.in-Some-ratio_row.row c.now-in-loop-size-2.ensures.value c.in-Some-ratio_row.ensures.best in
    subst (λ k. 0 < k) (sym (c.basic-leaving.ensures ∙ ap (λ (m : WholeTableau). (tableau m).basic c.in-Some-ratio_row.row) c.now-in-loop-size-3.ensures.value)) (walk_variable c.args.size c.args.first c.args.work.now c.requires.start l.work l.entering c.args.pivots.now l.pivots l.step o ne c.in-Some-ratio_row.row L.within).0

pub loop-size-preserved : goal.loop-size-preserved
loop-size-preserved g c =
    let l = c.loop-size in let o = l.invariant.path in
    let v = walk_value c.args.size c.args.first c.args.work.now c.requires.start l.work l.entering c.args.pivots.now l.pivots l.step o c.now.result.now (c.args.size + c.args.size + 1) c.value.result c.now.ensures.value (omega arith) c.value.ensures.value in
    let ne : basic_solution (tableau l.work) (z0_of c.args.size) ≢ zero_ℚ = λ e. true≢false (sym (c.is_zero.ensures.1 (v ∙ e)) ∙ c.if-is_zero.false) in
    let L = walk_best c.args.size c.args.first c.args.work.now c.requires.start l.work l.entering c.args.pivots.now l.pivots l.step o ne c.now-in-loop-size-2.result.now c.in-Some.column c.in-Some-ratio_row.row c.now-in-loop-size-2.ensures.value c.in-Some-ratio_row.ensures.best in
    let column : IsIndexOf l.work.nonbasics l.entering (Some c.in-Some.column) = subst (λ (m : WholeTableau). IsIndexOf m.nonbasics l.entering (Some c.in-Some.column)) c.now-in-loop-size.ensures.value c.in-Some.ensures.column in
    let left = c.basic-leaving.ensures ∙ ap (λ (m : WholeTableau). (tableau m).basic c.in-Some-ratio_row.row) c.now-in-loop-size-3.ensures.value in
    record {
      size = l.invariant.size;
      few = l.invariant.few;
      z0 = l.invariant.z0;
      path = walk_next c.args.size c.args.first c.args.work.now c.requires.start l.work l.entering c.args.pivots.now l.pivots l.step o ne c.in-Some.column c.in-Some-ratio_row.row column L
          c.pivot-in-loop-size.new.self c.complement_of-entering.result c.pivot-in-loop-size.new.pivots c.saturating_add-step.result (record { is_tableau = c.pivot-in-loop-size.ensures.valid; pivot = c.in_default-pivot.ensures.pivot; fits = c.in_default-pivot.ensures.fits }) (c.complement_of-entering.ensures ∙ ap (complement c.args.size) left) c.pivot-in-loop-size.ensures.counted (c.saturating_add-step.ensures ∙ ap pivot_number (add-one l.step) ∙ ap (λ k. pivot_number (suc k)) o.number ∙ pivot_number_next (suc (length o.earlier)));
    }

pub loop-size-smaller : goal.loop-size-smaller
loop-size-smaller g c =
    let l = c.loop-size in let o = l.invariant.path in
    let b = walk_bound c.args.size c.args.first c.args.work.now c.requires.start c.pivot-in-loop-size.new.self c.complement_of-entering.result c.args.pivots.now c.pivot-in-loop-size.new.pivots c.saturating_add-step.result (loop-size-preserved g c).path in
    let e = c.pivot-in-loop-size.ensures.counted in
    omega (arith, b, e)
