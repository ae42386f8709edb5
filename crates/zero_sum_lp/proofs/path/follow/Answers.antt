use Rattle.std.proofs.Common.{ℕ, suc, add-one, ap, arith, ◌<◌, ◌≡◌, length, subst, sym, ◌∙◌}
use Rattle.rational.specs.Rational.{zero_ℚ, ◌≤ℚ◌}
use Rattle.lex_tableau.specs.Pivots.{pivot_number}
use Rattle.lex_tableau.specs.Rows.{WholeTableau, tableau}
use Rattle.zero_sum_lp.proofs.PathWalkLemmas.{objective_in, some_leaves, read_enters, read_leaves, read_end, under_way_next, under_way_less, measure_falls, is_unfit}
use Rattle.zero_sum_lp.proofs.path.follow.Goals as goal
use Rattle.rational.proofs.InverseLemmas.{ne_zero_of_pos}

pub entering-requires : goal.entering-requires
entering-requires g c =
    subst (λ (n : WholeTableau). c.args.objective < length n.basics) (sym c.now.ensures.value) (objective_in c.args.work.now c.loop-column.work c.loop-column.invariant.count c.requires.start c.loop-column.invariant.path c.args.objective c.requires.objective_is)

pub ratio_row-requires : goal.ratio_row-requires
ratio_row-requires g c =
    subst (λ (n : WholeTableau). c.in-Some.column < length n.nonbasics) (sym c.now-in-Some.ensures.value) (read_enters c.args.work.now c.loop-column.work c.now.result.now c.args.pivots.now c.loop-column.pivots c.loop-column.number c.args.objective c.in-Some.column c.requires.start c.loop-column.invariant c.requires.objective_is c.now.ensures.value c.in-Some.ensures).column

pub unreachable-requires : goal.unreachable-requires
unreachable-requires g c =
    some_leaves c.args.work.now c.loop-column.work c.loop-column.invariant.count c.requires.start c.loop-column.invariant.path c.in-Some.column (read_enters c.args.work.now c.loop-column.work c.now.result.now c.args.pivots.now c.loop-column.pivots c.loop-column.number c.args.objective c.in-Some.column c.requires.start c.loop-column.invariant c.requires.objective_is c.now.ensures.value c.in-Some.ensures) (subst (λ (n : WholeTableau). (i : ℕ) → i < n.rated → (tableau n).cell i c.in-Some.column ≤ℚ zero_ℚ) c.now-in-Some.ensures.value c.in_default-ratio_row.ensures.best)

pub nonbasic-variable-requires : goal.nonbasic-variable-requires
nonbasic-variable-requires g c =
    subst (λ (n : WholeTableau). c.in-Some.column < length n.nonbasics) (sym c.now-in-Some-2.ensures.value) (read_enters c.args.work.now c.loop-column.work c.now.result.now c.args.pivots.now c.loop-column.pivots c.loop-column.number c.args.objective c.in-Some.column c.requires.start c.loop-column.invariant c.requires.objective_is c.now.ensures.value c.in-Some.ensures).column

pub pivot-requires-clause-row_in : goal.pivot-requires-clause-row_in
pivot-requires-clause-row_in g c = (read_leaves c.loop-column.work c.now-in-Some.result.now c.in-Some.column c.in-Some-ratio_row.row c.now-in-Some.ensures.value c.in-Some-ratio_row.ensures.best).within

pub pivot-requires-clause-col_in : goal.pivot-requires-clause-col_in
pivot-requires-clause-col_in g c =
    (read_enters c.args.work.now c.loop-column.work c.now.result.now c.args.pivots.now c.loop-column.pivots c.loop-column.number c.args.objective c.in-Some.column c.requires.start c.loop-column.invariant c.requires.objective_is c.now.ensures.value c.in-Some.ensures).column

pub pivot-requires-clause-entry : goal.pivot-requires-clause-entry
pivot-requires-clause-entry g c =
    ne_zero_of_pos ((tableau c.loop-column.work).cell c.in-Some-ratio_row.row c.in-Some.column) (read_leaves c.loop-column.work c.now-in-Some.result.now c.in-Some.column c.in-Some-ratio_row.row c.now-in-Some.ensures.value c.in-Some-ratio_row.ensures.best).positive

pub returns-in-Err-clause-unfit : goal.returns-in-Err-clause-unfit
returns-in-Err-clause-unfit g c =
    is_unfit c.args.work.now c.loop-column.work c.args.pivots.now c.loop-column.pivots c.loop-column.number c.nonbasic-variable.result c.in-Some.column c.in-Some-ratio_row.row c.in-Err.unfit c.loop-column.invariant (read_enters c.args.work.now c.loop-column.work c.now.result.now c.args.pivots.now c.loop-column.pivots c.loop-column.number c.args.objective c.in-Some.column c.requires.start c.loop-column.invariant c.requires.objective_is c.now.ensures.value c.in-Some.ensures) (read_leaves c.loop-column.work c.now-in-Some.result.now c.in-Some.column c.in-Some-ratio_row.row c.now-in-Some.ensures.value c.in-Some-ratio_row.ensures.best) (subst (λ (n : WholeTableau). c.nonbasic-variable.result ≡ (tableau n).nonbasic c.in-Some.column) c.now-in-Some-2.ensures.value c.nonbasic-variable.ensures) c.in-Err.ensures.unfit

pub returns-in-Err-clause-cost : goal.returns-in-Err-clause-cost
returns-in-Err-clause-cost g c = let b = under_way_less c.args.work.now c.loop-column.work c.args.pivots.now c.loop-column.pivots c.loop-column.number c.requires.start c.loop-column.invariant in let e = c.pivot.ensures.counted in omega arith

pub returns-in-Err-clause-counted : goal.returns-in-Err-clause-counted
returns-in-Err-clause-counted g c = let u = c.loop-column.invariant in let e = u.counted in let f = c.pivot.ensures.counted in (suc u.count, omega (arith, e, f), u.is_number)

pub loop-column-smaller : goal.loop-column-smaller
loop-column-smaller g c = measure_falls _ c.loop-column.pivots c.pivot.new.pivots c.pivot.ensures.counted (under_way_less c.args.work.now c.loop-column.work c.args.pivots.now c.loop-column.pivots c.loop-column.number c.requires.start c.loop-column.invariant)

pub loop-column-preserved : goal.loop-column-preserved
loop-column-preserved g c =
    under_way_next c.args.work.now c.loop-column.work c.pivot.new.self c.args.pivots.now c.loop-column.pivots c.pivot.new.pivots c.loop-column.number c.saturating_add-number.result c.loop-column.invariant (record { column = c.in-Some.column; row = c.in-Some-ratio_row.row; entering = (read_enters c.args.work.now c.loop-column.work c.now.result.now c.args.pivots.now c.loop-column.pivots c.loop-column.number c.args.objective c.in-Some.column c.requires.start c.loop-column.invariant c.requires.objective_is c.now.ensures.value c.in-Some.ensures); leaving = (read_leaves c.loop-column.work c.now-in-Some.result.now c.in-Some.column c.in-Some-ratio_row.row c.now-in-Some.ensures.value c.in-Some-ratio_row.ensures.best); fitting = record { is_tableau = c.pivot.ensures.valid; pivot = c.in-Ok.ensures.pivot; fits = c.in-Ok.ensures.fits } }) c.pivot.ensures.counted (c.saturating_add-number.ensures ∙ ap pivot_number (add-one c.loop-column.number))

pub returns-clause-end : goal.returns-clause-end
returns-clause-end g c =
    read_end c.args.work.now c.loop-column.work c.now.result.now c.args.pivots.now c.loop-column.pivots c.loop-column.number c.args.objective c.requires.start c.loop-column.invariant c.requires.objective_is c.now.ensures.value c.in_default.ensures

pub returns-clause-path : goal.returns-clause-path
returns-clause-path g c = let u = c.loop-column.invariant in let e = u.counted in (u.count, omega (arith, e), u.path)

pub returns-clause-cost : goal.returns-clause-cost
returns-clause-cost g c = let b = under_way_less c.args.work.now c.loop-column.work c.args.pivots.now c.loop-column.pivots c.loop-column.number c.requires.start c.loop-column.invariant in omega arith
