use Rattle.std.proofs.Common.{◌∙◌, ◌≡◌, All, [], ap, subst, arith, length}
use Rattle.std.proofs.lemmas.List.{get_or_default}
use Rattle.std.proofs.lemmas.List.Elements.{All-nil}
use Rattle.std.proofs.lemmas.Result.{err_from_is_err_and}
use Rattle.rational.specs.Rational.{zero_ℚ}
use Rattle.rational.specs.Sum.{sum_to, entry_at}
use Rattle.frac128.specs.Steps.{StepFits, sum_steps}
use Rattle.frac128.proofs.SumStepLemmas.{addition-refused, sum-more}
use Rattle.label_pairing.proofs.scaling.sum.Goals as goal

pub loop-entry-preserved : goal.loop-entry-preserved
loop-entry-preserved c =
    let p = c.args.point.now in
    let k = c.loop-entry.entry-index in
    let read : c.entry-item.result ≡ entry_at p k = c.entry-item.is ∙ get_or_default p k c.entry-item.result zero_ℚ c.loop-entry-test.true in
    let more = sum-more (entry_at p) (λ _. []) k c.loop-entry.sum c.entry-item.result c.loop-entry.invariant.value c.loop-entry.invariant.fits read (All-nil StepFits) _ c.in_ok-sum.ensures.value c.in_ok-sum.ensures.fits in
    record { value = more.0; fits = more.1 }

pub returns-in_err-sum : goal.returns-in_err-sum
returns-in_err-sum c =
    let p = c.args.point.now in
    let k = c.loop-entry.entry-index in
    let read : c.entry-item.result ≡ entry_at p k = c.entry-item.is ∙ get_or_default p k c.entry-item.result zero_ℚ c.loop-entry-test.true in
    let stop = err_from_is_err_and c.from_residual.result c.from_residual.ensures.1 in
    rw (stop.1, stop.2) (addition-refused (entry_at p) (λ _. []) k c.loop-entry.sum c.entry-item.result c.loop-entry.invariant.value c.loop-entry.invariant.fits (length p) c.in_err-sum.field-0.0 c.loop-entry-test.true read (All-nil StepFits) c.in_err-sum.ensures.step c.in_err-sum.ensures.unfit)

pub returns : goal.returns
returns c =
    let p = c.args.point.now in
    let end : c.loop-entry.entry-index ≡ length p = omega arith in
    (c.loop-entry.invariant.value ∙ ap (λ n. sum_to n (entry_at p)) end, subst (λ n. All StepFits (sum_steps n (entry_at p) (λ _. []))) end c.loop-entry.invariant.fits)
