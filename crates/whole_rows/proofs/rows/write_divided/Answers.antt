use Rattle.std.proofs.Common.{◌≡◌, ◌*ℤ◌, ◌∙◌, ap, sym, length, pos, to_z, of_z, arith, subst, below_more}
use Rattle.std.specs.Int.{w64, w128}
use Rattle.frac128.specs.Fraction.{PartFits}
use Rattle.whole_rows.specs.Rows.{from_place}
use Rattle.whole_rows.specs.Pivots.{place_number}
use Rattle.whole_rows.proofs.FittingStepLemmas.{read_back}
use Rattle.whole_rows.proofs.RowWriteLemmas.{kept_outside, written_next}
use Rattle.whole_rows.proofs.rows.write_divided.Goals as goal

pub loop-place-preserved : goal.loop-place-preserved
loop-place-preserved c =
    let size : length c.loop-place.spare ≡ length c.args.spare.now = c.loop-place.auto.spare in
    let row = from_place c.args.pair.numbers.now c.args.pair.own in
    let first = from_place c.args.pair.numbers.now c.args.pair.first in
    let u = to_z w64 (of_z w64 c.args.u) in
    let v = to_z w64 (of_z w64 c.args.v) in
    record {
      kept = kept_outside c.loop-place.spare c.args.spare.now c.args.pair.own c.loop-place.place _ c.loop-place.invariant.kept;
      divided = written_next (λ p x. (x *ℤ pos c.args.by.value ≡ place_number row first c.args.pair.column u v p) × PartFits x) c.loop-place.spare c.args.pair.own c.loop-place.place (to_z w128 (of_z w128 c.in-Some-quotient.quotient)) (omega (arith, c.loop-place-test.true, c.requires.spare_in))
          (ap (λ x. x *ℤ pos c.args.by.value) (read_back c.in-Some-quotient.quotient c.in-Some-quotient.ensures.1) ∙ c.in-Some-quotient.ensures.0 ∙ read_back c.in-Some.number c.in-Some.ensures.1 ∙ c.in-Some.ensures.0, subst PartFits (sym (read_back c.in-Some-quotient.quotient c.in-Some-quotient.ensures.1)) c.in-Some-quotient.ensures.1) c.loop-place.invariant.divided;
      fits = below_more _ _ c.loop-place.invariant.fits c.in-Some.ensures.2;
    }
