use Rattle.std.proofs.Common.{◌≡◌, length, subst, subst₂, to_z, of_z, arith, All, inl, inr}
use Rattle.std.specs.Int.{w128}
use Rattle.std.proofs.lemmas.Int.{to_z-of_z}
use Rattle.frac128.specs.Fraction.{PartFits}
use Rattle.whole_rows.specs.Rows.{from_place}
use Rattle.frac128.specs.Steps.{StepFits, IsFirstUnfit}
use Rattle.whole_rows.specs.Pivots.{place_number, steps_to, place_steps}
use Rattle.whole_rows.proofs.RowWriteLemmas.{kept_outside, written_next, written_there, steps_next, unfit_in_row}
use Rattle.whole_rows.proofs.rows.write_combination.Goals as goal

pub returns-in_default-clause-unfit : goal.returns-in_default-clause-unfit
returns-in_default-clause-unfit c =
    unfit_in_row (from_place c.args.pair.numbers.now c.args.pair.own) (from_place c.args.pair.numbers.now c.args.pair.first) c.args.pair.column c.args.u c.args.v c.loop-place.place c.args.pair.size c.unfit_at.result c.loop-place-test.true
    (subst₂ (λ u v. All StepFits (steps_to (from_place c.args.pair.numbers.now c.args.pair.own) (from_place c.args.pair.numbers.now c.args.pair.first) c.args.pair.column u v c.loop-place.place)) (to_z-of_z w128 c.args.u c.ranges.u) (to_z-of_z w128 c.args.v c.ranges.v) c.loop-place.invariant.fits)
    (subst₂ (λ u v. IsFirstUnfit (place_steps (from_place c.args.pair.numbers.now c.args.pair.own) (from_place c.args.pair.numbers.now c.args.pair.first) c.args.pair.column u v c.loop-place.place) c.unfit_at.result) (to_z-of_z w128 c.args.u c.ranges.u) (to_z-of_z w128 c.args.v c.ranges.v) c.unfit_at.ensures)

pub returns-clause-fits : goal.returns-clause-fits
returns-clause-fits c =
    let row = from_place c.args.pair.numbers.now c.args.pair.own in
    let first = from_place c.args.pair.numbers.now c.args.pair.first in
    let end : c.loop-place.place ≡ c.args.pair.size = omega (arith, c.loop-place-test.false, c.loop-place.auto.place-end) in
    subst (λ n. All StepFits (steps_to row first c.args.pair.column c.args.u c.args.v n)) end
    (subst₂ (λ u v. All StepFits (steps_to row first c.args.pair.column u v c.loop-place.place)) (to_z-of_z w128 c.args.u c.ranges.u) (to_z-of_z w128 c.args.v c.ranges.v) c.loop-place.invariant.fits)

pub loop-place-preserved : goal.loop-place-preserved
loop-place-preserved c =
    let size : length c.loop-place.spare ≡ length c.args.spare.now = c.loop-place.auto.spare in
    let row = from_place c.args.pair.numbers.now c.args.pair.own in
    let first = from_place c.args.pair.numbers.now c.args.pair.first in
    let u = to_z w128 (of_z w128 c.args.u) in
    let v = to_z w128 (of_z w128 c.args.v) in
    record {
      kept = kept_outside c.loop-place.spare c.args.spare.now c.args.pair.own c.loop-place.place _ c.loop-place.invariant.kept;
      written = written_next (λ p x. (x ≡ place_number row first c.args.pair.column u v p) × PartFits x) c.loop-place.spare c.args.pair.own c.loop-place.place (to_z w128 (of_z w128 c.in-Some.number)) (omega (arith, c.loop-place-test.true, c.requires.spare_in)) (written_there c.in-Some.number (place_number row first c.args.pair.column u v c.loop-place.place) c.in-Some.ensures.0 c.in-Some.ensures.1) c.loop-place.invariant.written;
      fits = steps_next row first c.args.pair.column u v c.loop-place.place c.loop-place.invariant.fits c.in-Some.ensures.2;
    }

pub returns-in_default-clause-kept : goal.returns-in_default-clause-kept
returns-in_default-clause-kept c k h =
    c.loop-place.invariant.kept k (elim h [ inl l ↦ inl l | inr g ↦ inr (omega (arith, g, c.loop-place-test.true)) ])
