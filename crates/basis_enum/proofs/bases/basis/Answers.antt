use Rattle.std.proofs.Common.{get_or, arith, ◌<◌, ◌^◌, ◌≡◌, take}
use Rattle.std.proofs.lemmas.List.Elements.{Contains-get_or}
use Rattle.std.proofs.lemmas.List.Sums.{sum_by_more_le}
use Rattle.basis_enum.specs.Bases.{digit, basis_of}
use Rattle.basis_enum.proofs.DigitLemmas.{basis_below}
use Rattle.basis_enum.proofs.bases.basis.Goals as goal

pub digit-basis-requires-clause-above : goal.digit-basis-requires-clause-above
digit-basis-requires-clause-above c = c.requires.above _ (Contains-get_or c.args.nonbasics.now c.loop-variable.variable-index 0 c.loop-variable-test.true)

pub digit-basis-requires-clause-most : goal.digit-basis-requires-clause-most
digit-basis-requires-clause-most c = c.requires.most _ (Contains-get_or c.args.nonbasics.now c.loop-variable.variable-index 0 c.loop-variable-test.true)

pub overflow_add-basis : goal.overflow_add-basis
overflow_add-basis c =
    let whole : basis_of c.args.nonbasics.now < 2 ^ 128 = basis_below c.args.nonbasics.now c.requires in
    let more = sum_by_more_le digit c.args.nonbasics.now c.loop-variable.variable-index 0 c.loop-variable-test.true in
    let here : c.loop-variable.basis ≡ basis_of (take c.loop-variable.variable-index c.args.nonbasics.now) = c.loop-variable.invariant in
    let value : c.digit-basis.result ≡ digit (get_or c.args.nonbasics.now c.loop-variable.variable-index 0) = c.digit-basis.ensures in
    omega (arith, more)
