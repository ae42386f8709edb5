use Rattle.std.proofs.Common.{◌≡◌, ◌*ℤ◌, ◌+◌, to_z, of_z, inr, arith, length}
use Rattle.std.specs.Int.{w128}
use Rattle.frac128.specs.Fraction.{PartFits}
use Rattle.whole_rows.specs.Rows.{from_place}
use Rattle.whole_rows.proofs.RowWriteLemmas.{kept_outside, written_next, still_divides, divided_there}
use Rattle.whole_rows.proofs.rows.divide_row.Goals as goal

pub quotient_by-requires-clause-divides : goal.quotient_by-requires-clause-divides
quotient_by-requires-clause-divides c =
    still_divides c.args.by (from_place c.loop-place.numbers c.args.own c.loop-place.place) (from_place c.args.numbers.now c.args.own c.loop-place.place) c.ranges.by (c.loop-place.invariant.kept (c.args.own + c.loop-place.place) (inr (omega arith))) (c.requires.fit c.loop-place.place c.loop-place-test.true) (c.requires.divides c.loop-place.place c.loop-place-test.true)

pub loop-place-preserved : goal.loop-place-preserved
loop-place-preserved c =
    let size : length c.loop-place.numbers ≡ length c.args.numbers.now = c.loop-place.auto.numbers in
    record {
      kept = kept_outside c.loop-place.numbers c.args.numbers.now c.args.own c.loop-place.place _ c.loop-place.invariant.kept;
      divided = written_next (λ p x. (x *ℤ to_z w128 (of_z w128 c.args.by) ≡ from_place c.args.numbers.now c.args.own p) × PartFits x) c.loop-place.numbers c.args.own c.loop-place.place (to_z w128 (of_z w128 c.quotient_by.result)) (omega (arith, c.loop-place-test.true, c.requires.own_in)) (divided_there (to_z w128 (of_z w128 c.args.by)) c.quotient_by.result (from_place c.loop-place.numbers c.args.own c.loop-place.place) (from_place c.args.numbers.now c.args.own c.loop-place.place) c.quotient_by.ensures.fits (c.loop-place.invariant.kept (c.args.own + c.loop-place.place) (inr (omega arith))) (c.requires.fit c.loop-place.place c.loop-place-test.true) c.quotient_by.ensures.value) c.loop-place.invariant.divided;
    }
