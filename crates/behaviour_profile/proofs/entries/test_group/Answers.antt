use Rattle.std.proofs.Common.{All, arith, refl, sym, subst, ap, ◌∙◌, ◌≡◌, ◌+◌, ◌≤ℤ◌, pos}
use Rattle.std.proofs.lemmas.Bool.{false≢true}
use Rattle.std.proofs.lemmas.Int.{ints}
use Rattle.std.proofs.lemmas.Result.{err_from_is_err_and}
use Rattle.rational.specs.Rational.{◌≤ℚ◌, zero_ℚ}
use Rattle.rational.proofs.PartLemmas.{nonneg-num, sign_nonneg}
use Rattle.sequence_data.proofs.PlaceLemmas.{get_or-inside}
use Rattle.behaviour_profile.specs.EntryTests.{TestHolds}
use Rattle.rational.specs.Sum.{entry_at}
use Rattle.behaviour_profile.proofs.GroupTestLemmas.{tests_below, sum_below, negative_by_sign, negative_here, unfit_here, passed-next, sum-next, group-passed, sum_here}
use Rattle.behaviour_profile.proofs.entries.test_group.Goals as goal
use Rattle.behaviour_profile.proofs.entries.test_group.Goals.{After-signum}

here : (c : After-signum) → c.index-entries-place.result ≡ entry_at c.args.entries.now (c.args.place + c.loop-k.k)
here c = c.index-entries-place.is ∙ get_or-inside c.args.entries.now (c.args.place + c.loop-k.k) c.index-entries-place.result zero_ℚ (omega (arith, c.requires.within, c.loop-k-test.true))

positive : (c : After-signum) → pos 0 ≤ℤ c.signum.result → zero_ℚ ≤ℚ c.index-entries-place.result
positive c h = (nonneg-num c.index-entries-place.result).1 (sign_nonneg _ (subst (λ z. pos 0 ≤ℤ z) c.signum.ensures h))

pub returns-then-signum-lt0 : goal.returns-then-signum-lt0
returns-then-signum-lt0 c =
    let a = (goal.at.returns-then-signum-lt0 c).After-signum in
    negative_here c.args.entries.now c.args.place c.loop-k.k c.index-entries-place.result c.loop-k.sum (here a) c.loop-k.invariant.so_far c.loop-k.invariant.passed c.args.group c.args.count (c.args.place + c.loop-k.k) c.loop-k-test.true refl
    (negative_by_sign c.index-entries-place.result c.signum.result c.signum.ensures (omega (arith, ints)))

pub returns-in_err-sum : goal.returns-in_err-sum
returns-in_err-sum c =
    let a = (goal.at.returns-in_err-sum c).After-signum in
    let p = err_from_is_err_and c.from_residual.result c.from_residual.ensures.1 in
    rw (p.1, p.2) (unfit_here c.args.entries.now c.args.place c.loop-k.k c.index-entries-place.result c.loop-k.sum (here a) c.loop-k.invariant.so_far c.loop-k.invariant.passed c.args.group c.args.count _ c.loop-k-test.true (positive a (omega (arith, ints))) c.in_err-sum.ensures.step c.in_err-sum.ensures.unfit)

pub loop-k-preserved : goal.loop-k-preserved
loop-k-preserved c =
    let a = (goal.at.loop-k-preserved c).After-signum in
    record {
      so_far = sum-next c.args.entries.now c.args.place c.loop-k.k c.index-entries-place.result c.loop-k.sum (here a) c.loop-k.invariant.so_far c.loop-k.invariant.passed _ c.in_ok-sum.ensures.value;
      passed = passed-next c.args.entries.now c.args.place c.loop-k.k c.index-entries-place.result c.loop-k.sum (here a) c.loop-k.invariant.so_far c.loop-k.invariant.passed (positive a (omega (arith, ints))) c.in_ok-sum.ensures.fits;
    }

pub returns-then-eq : goal.returns-then-eq
returns-then-eq c =
    let end : c.loop-k.k ≡ c.args.count = omega arith in
    group-passed c.args.entries.now c.args.place c.args.group c.args.count c.loop-k.sum (c.loop-k.invariant.so_far ∙ ap (sum_below c.args.entries.now c.args.place) end)
    (subst (λ n. All TestHolds (tests_below c.args.entries.now c.args.place n)) end c.loop-k.invariant.passed) (c.eq.ensures.same.0 c.if-eq.true ∙ c.one.ensures)

pub returns-else-eq : goal.returns-else-eq
returns-else-eq c =
    let end : c.loop-k.k ≡ c.args.count = omega arith in
    sum_here c.args.entries.now c.args.place c.args.group c.args.count c.loop-k.sum (c.loop-k.invariant.so_far ∙ ap (sum_below c.args.entries.now c.args.place) end)
    (subst (λ n. All TestHolds (tests_below c.args.entries.now c.args.place n)) end c.loop-k.invariant.passed) (λ e. false≢true (sym c.if-eq.false ∙ c.eq.ensures.same.1 (e ∙ sym c.one.ensures)))
