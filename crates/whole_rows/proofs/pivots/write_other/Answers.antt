use Rattle.std.proofs.Common.{◌∙◌, ◌+◌, ap₂, arith, subst, subst₂, sym, All}
use Rattle.std.proofs.lemmas.Result.{err_from_is_err_and}
use Rattle.whole_rows.specs.Rows.{from_place}
use Rattle.frac128.specs.Steps.{StepFits, IsFirstUnfit}
use Rattle.whole_rows.specs.Pivots.{own_factor, other_factor, steps_to, place_number}
use Rattle.whole_rows.proofs.FittingStepLemmas.{read_at, read_back}
use Rattle.whole_rows.proofs.RowValueLemmas.{pivoted_row, kept_row, lead_is, by_one, own_factor_pos, factors_cross, is_zero, not_zero, steps_are}
use Rattle.whole_rows.proofs.pivots.write_other.Goals as goal

pub returns-then-number-eq0-clause-written : goal.returns-then-number-eq0-clause-written
returns-then-number-eq0-clause-written c =
    kept_row (from_place c.args.pair.numbers.now c.args.pair.own) (from_place c.args.pair.numbers.now c.args.pair.first) c.args.pair.column c.args.pair.row.positive c.args.pair.size (from_place c.copy_row.new.spare c.args.pair.own) c.args.pair.column_in (is_zero (from_place c.args.pair.numbers.now c.args.pair.own c.args.pair.column) (c.args.pair.fit (c.args.pair.own + c.args.pair.column)) c.if-number-eq0.true) c.args.pair.row c.copy_row.ensures.written

pub reduce_row-requires-clause-positive : goal.reduce_row-requires-clause-positive
reduce_row-requires-clause-positive c =
    lead_is (from_place c.args.pair.numbers.now c.args.pair.own) (from_place c.args.pair.numbers.now c.args.pair.first) c.args.pair.column c.args.pair.row.positive c.args.pair.pivot_row.positive c.args.pair.entry c.args.pair.column_positive (own_factor (from_place c.args.pair.numbers.now c.args.pair.first c.args.pair.column) (from_place c.args.pair.numbers.now c.args.pair.own c.args.pair.column)) (other_factor (from_place c.args.pair.numbers.now c.args.pair.first c.args.pair.column) (from_place c.args.pair.numbers.now c.args.pair.own c.args.pair.column)) (own_factor_pos (from_place c.args.pair.numbers.now c.args.pair.first c.args.pair.column) (from_place c.args.pair.numbers.now c.args.pair.own c.args.pair.column) c.args.pair.entry) (factors_cross (from_place c.args.pair.numbers.now c.args.pair.first c.args.pair.column) (from_place c.args.pair.numbers.now c.args.pair.own c.args.pair.column) c.args.pair.entry) c.args.pair.size 1 (from_place c.write_combination.new.spare c.args.pair.own) c.args.pair.column_in (λ p hp. by_one _ _ ((c.in_ok-write_combination.ensures.written p hp).0 ∙ ap₂ (λ u v. place_number (from_place c.args.pair.numbers.now c.args.pair.own) (from_place c.args.pair.numbers.now c.args.pair.first) c.args.pair.column u v p) (read_back c.factors-u.result.0 c.factors-u.ensures.own_fits ∙ c.factors-u.ensures.own ∙ ap₂ own_factor (read_at c.args.pair.numbers.now (c.args.pair.first + c.args.pair.column) c.args.pair.fit) (read_at c.args.pair.numbers.now (c.args.pair.own + c.args.pair.column) c.args.pair.fit)) (read_back c.factors-u.result.1 c.factors-u.ensures.other_fits ∙ c.factors-u.ensures.other ∙ ap₂ other_factor (read_at c.args.pair.numbers.now (c.args.pair.first + c.args.pair.column) c.args.pair.fit) (read_at c.args.pair.numbers.now (c.args.pair.own + c.args.pair.column) c.args.pair.fit))))

pub returns-clause-kept : goal.returns-clause-kept
returns-clause-kept c k h = c.reduce_row.ensures.kept k h ∙ c.in_ok-write_combination.ensures.kept k h ∙ c.write_short.ensures.kept k h

pub returns-clause-written : goal.returns-clause-written
returns-clause-written c =
    pivoted_row (from_place c.args.pair.numbers.now c.args.pair.own) (from_place c.args.pair.numbers.now c.args.pair.first) c.args.pair.column c.args.pair.row.positive c.args.pair.pivot_row.positive c.args.pair.entry c.args.pair.column_positive (own_factor (from_place c.args.pair.numbers.now c.args.pair.first c.args.pair.column) (from_place c.args.pair.numbers.now c.args.pair.own c.args.pair.column)) (other_factor (from_place c.args.pair.numbers.now c.args.pair.first c.args.pair.column) (from_place c.args.pair.numbers.now c.args.pair.own c.args.pair.column)) (own_factor_pos (from_place c.args.pair.numbers.now c.args.pair.first c.args.pair.column) (from_place c.args.pair.numbers.now c.args.pair.own c.args.pair.column) c.args.pair.entry) (factors_cross (from_place c.args.pair.numbers.now c.args.pair.first c.args.pair.column) (from_place c.args.pair.numbers.now c.args.pair.own c.args.pair.column) c.args.pair.entry) c.args.pair.size 1 (from_place c.write_combination.new.spare c.args.pair.own) (from_place c.reduce_row.new.numbers c.args.pair.own) c.args.pair.column_in (omega arith) (λ p hp. by_one _ _ ((c.in_ok-write_combination.ensures.written p hp).0 ∙ ap₂ (λ u v. place_number (from_place c.args.pair.numbers.now c.args.pair.own) (from_place c.args.pair.numbers.now c.args.pair.first) c.args.pair.column u v p) (read_back c.factors-u.result.0 c.factors-u.ensures.own_fits ∙ c.factors-u.ensures.own ∙ ap₂ own_factor (read_at c.args.pair.numbers.now (c.args.pair.first + c.args.pair.column) c.args.pair.fit) (read_at c.args.pair.numbers.now (c.args.pair.own + c.args.pair.column) c.args.pair.fit)) (read_back c.factors-u.result.1 c.factors-u.ensures.other_fits ∙ c.factors-u.ensures.other ∙ ap₂ other_factor (read_at c.args.pair.numbers.now (c.args.pair.first + c.args.pair.column) c.args.pair.fit) (read_at c.args.pair.numbers.now (c.args.pair.own + c.args.pair.column) c.args.pair.fit)))) c.reduce_row.ensures.reduced

pub returns-clause-fits : goal.returns-clause-fits
returns-clause-fits c =
    subst (All StepFits) (sym (steps_are c.args.pair.size (from_place c.args.pair.numbers.now c.args.pair.own) (from_place c.args.pair.numbers.now c.args.pair.first) c.args.pair.column (not_zero _ c.if-number-eq0.false))) (subst₂ (λ u v. All StepFits (steps_to (from_place c.args.pair.numbers.now c.args.pair.own) (from_place c.args.pair.numbers.now c.args.pair.first) c.args.pair.column u v c.args.pair.size)) (read_back c.factors-u.result.0 c.factors-u.ensures.own_fits ∙ c.factors-u.ensures.own ∙ ap₂ own_factor (read_at c.args.pair.numbers.now (c.args.pair.first + c.args.pair.column) c.args.pair.fit) (read_at c.args.pair.numbers.now (c.args.pair.own + c.args.pair.column) c.args.pair.fit)) (read_back c.factors-u.result.1 c.factors-u.ensures.other_fits ∙ c.factors-u.ensures.other ∙ ap₂ other_factor (read_at c.args.pair.numbers.now (c.args.pair.first + c.args.pair.column) c.args.pair.fit) (read_at c.args.pair.numbers.now (c.args.pair.own + c.args.pair.column) c.args.pair.fit)) c.in_ok-write_combination.ensures.fits)

pub returns-in_err-write_combination-clause-unfit : goal.returns-in_err-write_combination-clause-unfit
returns-in_err-write_combination-clause-unfit c =
    let p = err_from_is_err_and c.from_residual.result c.from_residual.ensures.1 in
    rw (p.1, p.2) (subst (λ s. IsFirstUnfit s c.in_err-write_combination.field-0.0) (sym (steps_are c.args.pair.size (from_place c.args.pair.numbers.now c.args.pair.own) (from_place c.args.pair.numbers.now c.args.pair.first) c.args.pair.column (not_zero _ c.if-number-eq0.false))) (subst₂ (λ u v. IsFirstUnfit (steps_to (from_place c.args.pair.numbers.now c.args.pair.own) (from_place c.args.pair.numbers.now c.args.pair.first) c.args.pair.column u v c.args.pair.size) c.in_err-write_combination.field-0.0) (read_back c.factors-u.result.0 c.factors-u.ensures.own_fits ∙ c.factors-u.ensures.own ∙ ap₂ own_factor (read_at c.args.pair.numbers.now (c.args.pair.first + c.args.pair.column) c.args.pair.fit) (read_at c.args.pair.numbers.now (c.args.pair.own + c.args.pair.column) c.args.pair.fit)) (read_back c.factors-u.result.1 c.factors-u.ensures.other_fits ∙ c.factors-u.ensures.other ∙ ap₂ other_factor (read_at c.args.pair.numbers.now (c.args.pair.first + c.args.pair.column) c.args.pair.fit) (read_at c.args.pair.numbers.now (c.args.pair.own + c.args.pair.column) c.args.pair.fit)) c.in_err-write_combination.ensures.unfit))
