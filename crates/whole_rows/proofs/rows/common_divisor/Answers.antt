use Rattle.std.proofs.Common.{◌∙◌, ap, arith, nat_abs, pos, get_or, to_z, of_z}
use Rattle.std.specs.Int.{w128}
use Rattle.rational.specs.Gcd.{gcd}
use Rattle.whole_rows.specs.Rows.{from_place}
use Rattle.whole_rows.proofs.FittingStepLemmas.{read_size, plus_none}
use Rattle.whole_rows.proofs.RowWriteLemmas.{common_first, common_next, common_one}
use Rattle.whole_rows.proofs.rows.common_divisor.Goals as goal

pub loop-place-init : goal.loop-place-init
loop-place-init c =
    common_first (from_place c.args.numbers.now c.args.own) c.unsigned_abs-common.result c.requires.positive (read_size (from_place c.args.numbers.now c.args.own 0) c.unsigned_abs-common.result (c.requires.fit 0 c.requires.some) (c.unsigned_abs-common.ensures.value ∙ ap (λ n. nat_abs (to_z w128 (of_z w128 (get_or c.args.numbers.now n (pos 0))))) (plus_none c.args.own)))

pub loop-place-preserved : goal.loop-place-preserved
loop-place-preserved c =
    common_next (from_place c.args.numbers.now c.args.own) c.loop-place.place c.loop-place.common c.gcd-common.result c.loop-place.invariant (c.gcd-common.ensures ∙ ap (gcd c.loop-place.common) (read_size (from_place c.args.numbers.now c.args.own c.loop-place.place) c.unsigned_abs.result (c.requires.fit c.loop-place.place c.loop-place-test.true) c.unsigned_abs.ensures.value))

pub returns-then-common-eq1 : goal.returns-then-common-eq1
returns-then-common-eq1 c =
    common_one (from_place c.args.numbers.now c.args.own) c.loop-place.place c.args.size c.loop-place.common (omega (arith, c.loop-place-test.true)) c.loop-place.invariant c.if-common-eq1.true
