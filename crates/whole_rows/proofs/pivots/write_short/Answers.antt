use Rattle.std.proofs.Common.{◌∙◌, ◌+◌, ◌<◌, ap₂, subst, sym, All}
use Rattle.whole_rows.specs.Rows.{from_place}
use Rattle.frac128.specs.Steps.{StepFits}
use Rattle.whole_rows.specs.Shorts.{IsShort}
use Rattle.whole_rows.specs.Pivots.{signed_by, own_factor, other_factor, place_number}
use Rattle.whole_rows.proofs.FittingStepLemmas.{read_at, read_back}
use Rattle.whole_rows.proofs.ShortNumberLemmas.{short_back, short_steps}
use Rattle.whole_rows.proofs.RowValueLemmas.{pivoted_row, lead_is, own_sign, signs_cross, steps_are, own_short, other_short}
use Rattle.whole_rows.proofs.pivots.write_short.Goals as goal

pub reduce_row-requires-clause-positive : goal.reduce_row-requires-clause-positive
reduce_row-requires-clause-positive c =
    lead_is (from_place c.args.pair.numbers.now c.args.pair.own) (from_place c.args.pair.numbers.now c.args.pair.first) c.args.pair.column c.args.pair.row.positive c.args.pair.pivot_row.positive c.args.pair.entry c.args.pair.column_positive (signed_by (from_place c.args.pair.numbers.now c.args.pair.first c.args.pair.column) (from_place c.args.pair.numbers.now c.args.pair.first c.args.pair.column)) (signed_by (from_place c.args.pair.numbers.now c.args.pair.first c.args.pair.column) (from_place c.args.pair.numbers.now c.args.pair.own c.args.pair.column)) (own_sign (from_place c.args.pair.numbers.now c.args.pair.first c.args.pair.column) c.args.pair.entry) (signs_cross (from_place c.args.pair.numbers.now c.args.pair.first c.args.pair.column) (from_place c.args.pair.numbers.now c.args.pair.own c.args.pair.column)) c.args.pair.size c.new.result.value (from_place c.write_divided.new.spare c.args.pair.own) c.args.pair.column_in
    (λ p hp. (c.write_divided.ensures.divided c.if-not-write_divided.false p hp).0 ∙ ap₂ (λ u v. place_number (from_place c.args.pair.numbers.now c.args.pair.own) (from_place c.args.pair.numbers.now c.args.pair.first) c.args.pair.column u v p) (short_back c.in-Some.u c.in-Some.ensures.1 ∙ c.in-Some.ensures.0 ∙ read_back c.times_sign.result c.times_sign.ensures.fits ∙ c.times_sign.ensures.value ∙ ap₂ signed_by (read_at c.args.pair.numbers.now (c.args.pair.first + c.args.pair.column) c.args.pair.fit) (read_at c.args.pair.numbers.now (c.args.pair.first + c.args.pair.column) c.args.pair.fit)) (short_back c.in-Some-short_factor.v c.in-Some-short_factor.ensures.1 ∙ c.in-Some-short_factor.ensures.0 ∙ read_back c.times_sign-2.result c.times_sign-2.ensures.fits ∙ c.times_sign-2.ensures.value ∙ ap₂ signed_by (read_at c.args.pair.numbers.now (c.args.pair.first + c.args.pair.column) c.args.pair.fit) (read_at c.args.pair.numbers.now (c.args.pair.own + c.args.pair.column) c.args.pair.fit)))

pub returns-clause-written : goal.returns-clause-written
returns-clause-written c _ =
    pivoted_row (from_place c.args.pair.numbers.now c.args.pair.own) (from_place c.args.pair.numbers.now c.args.pair.first) c.args.pair.column c.args.pair.row.positive c.args.pair.pivot_row.positive c.args.pair.entry c.args.pair.column_positive (signed_by (from_place c.args.pair.numbers.now c.args.pair.first c.args.pair.column) (from_place c.args.pair.numbers.now c.args.pair.first c.args.pair.column)) (signed_by (from_place c.args.pair.numbers.now c.args.pair.first c.args.pair.column) (from_place c.args.pair.numbers.now c.args.pair.own c.args.pair.column)) (own_sign (from_place c.args.pair.numbers.now c.args.pair.first c.args.pair.column) c.args.pair.entry) (signs_cross (from_place c.args.pair.numbers.now c.args.pair.first c.args.pair.column) (from_place c.args.pair.numbers.now c.args.pair.own c.args.pair.column)) c.args.pair.size c.new.result.value (from_place c.write_divided.new.spare c.args.pair.own) (from_place c.reduce_row.new.numbers c.args.pair.own) c.args.pair.column_in (subst (λ n. 0 < n) (sym c.new.ensures) c.in-Some-probable_divisor.ensures)
    (λ p hp. (c.write_divided.ensures.divided c.if-not-write_divided.false p hp).0 ∙ ap₂ (λ u v. place_number (from_place c.args.pair.numbers.now c.args.pair.own) (from_place c.args.pair.numbers.now c.args.pair.first) c.args.pair.column u v p) (short_back c.in-Some.u c.in-Some.ensures.1 ∙ c.in-Some.ensures.0 ∙ read_back c.times_sign.result c.times_sign.ensures.fits ∙ c.times_sign.ensures.value ∙ ap₂ signed_by (read_at c.args.pair.numbers.now (c.args.pair.first + c.args.pair.column) c.args.pair.fit) (read_at c.args.pair.numbers.now (c.args.pair.first + c.args.pair.column) c.args.pair.fit)) (short_back c.in-Some-short_factor.v c.in-Some-short_factor.ensures.1 ∙ c.in-Some-short_factor.ensures.0 ∙ read_back c.times_sign-2.result c.times_sign-2.ensures.fits ∙ c.times_sign-2.ensures.value ∙ ap₂ signed_by (read_at c.args.pair.numbers.now (c.args.pair.first + c.args.pair.column) c.args.pair.fit) (read_at c.args.pair.numbers.now (c.args.pair.own + c.args.pair.column) c.args.pair.fit))) c.reduce_row.ensures.reduced

pub returns-clause-fits : goal.returns-clause-fits
returns-clause-fits c _ =
    subst (All StepFits) (sym (steps_are c.args.pair.size (from_place c.args.pair.numbers.now c.args.pair.own) (from_place c.args.pair.numbers.now c.args.pair.first) c.args.pair.column c.requires.number))
    (short_steps (from_place c.args.pair.numbers.now c.args.pair.own) (from_place c.args.pair.numbers.now c.args.pair.first) c.args.pair.column (own_factor (from_place c.args.pair.numbers.now c.args.pair.first c.args.pair.column) (from_place c.args.pair.numbers.now c.args.pair.own c.args.pair.column)) (other_factor (from_place c.args.pair.numbers.now c.args.pair.first c.args.pair.column) (from_place c.args.pair.numbers.now c.args.pair.own c.args.pair.column)) c.args.pair.size (own_short (from_place c.args.pair.numbers.now c.args.pair.first c.args.pair.column) (from_place c.args.pair.numbers.now c.args.pair.own c.args.pair.column) (subst IsShort (c.in-Some.ensures.0 ∙ read_back c.times_sign.result c.times_sign.ensures.fits ∙ c.times_sign.ensures.value ∙ ap₂ signed_by (read_at c.args.pair.numbers.now (c.args.pair.first + c.args.pair.column) c.args.pair.fit) (read_at c.args.pair.numbers.now (c.args.pair.first + c.args.pair.column) c.args.pair.fit)) c.in-Some.ensures.1)) (other_short (from_place c.args.pair.numbers.now c.args.pair.first c.args.pair.column) (from_place c.args.pair.numbers.now c.args.pair.own c.args.pair.column) (subst IsShort (c.in-Some-short_factor.ensures.0 ∙ read_back c.times_sign-2.result c.times_sign-2.ensures.fits ∙ c.times_sign-2.ensures.value ∙ ap₂ signed_by (read_at c.args.pair.numbers.now (c.args.pair.first + c.args.pair.column) c.args.pair.fit) (read_at c.args.pair.numbers.now (c.args.pair.own + c.args.pair.column) c.args.pair.fit)) c.in-Some-short_factor.ensures.1)) (c.write_divided.ensures.fits c.if-not-write_divided.false))
