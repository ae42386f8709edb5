use Rattle.std.proofs.Common.{◌∙◌, ◌≡◌, [], inl, inr, Ok, refl, length, sym, ap, ap₂, subst, subst₂, arith}
use Rattle.std.proofs.lemmas.List.{get_or_default}
use Rattle.std.proofs.lemmas.List.Elements.{All-append}
use Rattle.std.proofs.lemmas.Result.{err_from_is_err_and}
use Rattle.rational.specs.Rational.{◌*ℚ◌, inv_ℚ, zero_ℚ}
use Rattle.rational.proofs.InverseLemmas.{ne_zero_of_pos}
use Rattle.frac128.specs.Steps.{DivFits, step_of, StepFits, sum_steps}
use Rattle.frac128.specs.declared.steps.Op.TheVariants.{Div}
use Rattle.game_theory.specs.Lines.{listed}
use Rattle.game_theory.proofs.EntryLemmas.{listed-push}
use Rattle.frac128.proofs.StepRunLemmas.{first_unfit-more, first_unfit-following}
use Rattle.extreme_equilibria.specs.Polytopes.{scaled}
use Rattle.extreme_equilibria.proofs.PositiveNumberLemmas.{sum-pos}
use Rattle.label_pairing.specs.Scaling.{division, IsScalable}
use Rattle.label_pairing.specs.Stops.{scaled_in}
use Rattle.label_pairing.specs.declared.scaling.ScaleStop.TheVariants as stops
use Rattle.answers.specs.Answers.{Gives, map_ok}
use Rattle.rational.specs.Sum.{entry_at}
use Rattle.frac128.proofs.StepListLemmas.{fits-next, unfit-first, fits-all}
use Rattle.label_pairing.proofs.scaling.scale.Goals as goal

pub div-requires : goal.div-requires
div-requires c e =
    let scalable : IsScalable c.as_slice-point.result.now = subst IsScalable (sym c.as_slice-point.ensures.value) c.requires in
    ne_zero_of_pos _ (sum-pos (length c.as_slice-point.result.now) (entry_at c.as_slice-point.result.now) scalable.not_negative scalable.nonzero) (sym c.in_ok-sum.ensures.0 ∙ e)

pub returns-in_err-div : goal.returns-in_err-div
returns-in_err-div c =
    let p = c.as_slice-point.result.now in
    let read : c.entry-item.result ≡ entry_at p c.loop-entry.entry-index = c.entry-item.is ∙ get_or_default p c.loop-entry.entry-index c.entry-item.result zero_ℚ c.loop-entry-test.true in
    let stop = err_from_is_err_and c.from_residual-in_err-div.result c.from_residual-in_err-div.ensures.1 in
    subst (λ q. Gives stops.Memory (scaled_in q) (map_ok c.from_residual-in_err-div.result (λ scaled. scaled.items))) c.as_slice-point.ensures.value
    (rw (stop.1, stop.2) (inr (inl (c.in_err-div.field-0.0, first_unfit-following (sum_steps (length p) (entry_at p) (λ _. [])) _ c.in_err-div.field-0.0 c.in_ok-sum.ensures.1 (unfit-first (division p) (length p) c.loop-entry.entry-index c.loop-entry-test.true c.in_err-div.field-0.0 c.loop-entry.invariant.fits (λ f. c.in_err-div.ensures.unfit (subst₂ DivFits (sym read) (sym c.in_ok-sum.ensures.0) f)) (c.in_err-div.ensures.step ∙ ap₂ (λ x y. step_of Div x y) read c.in_ok-sum.ensures.0)), refl))))

pub returns-in_err-sum : goal.returns-in_err-sum
returns-in_err-sum c =
    let p = c.as_slice-point.result.now in
    let stop = err_from_is_err_and c.from_residual.result c.from_residual.ensures.1 in
    subst (λ q. Gives stops.Memory (scaled_in q) (map_ok c.from_residual.result (λ scaled. scaled.items))) c.as_slice-point.ensures.value
    (rw (stop.1, stop.2) (inr (inl (c.in_err-sum.field-0.0, first_unfit-more (sum_steps (length p) (entry_at p) (λ _. [])) _ c.in_err-sum.field-0.0 c.in_err-sum.ensures, refl))))

pub loop-entry-preserved : goal.loop-entry-preserved
loop-entry-preserved c =
    let p = c.as_slice-point.result.now in
    let read : c.entry-item.result ≡ entry_at p c.loop-entry.entry-index = c.entry-item.is ∙ get_or_default p c.loop-entry.entry-index c.entry-item.result zero_ℚ c.loop-entry-test.true in
    record {
      value = listed-push c.push.new.self.items c.loop-entry.scaled.items [] c.loop-entry.entry-index (scaled (length p) (entry_at p)) c.in_ok-div.field-0 c.loop-entry.invariant.value c.in_ok-push.ensures.items (c.in_ok-div.ensures.value ∙ ap₂ (λ x y. x *ℚ inv_ℚ y) read c.in_ok-sum.ensures.0);
      fits = fits-next (division p) (length p) c.loop-entry.entry-index c.loop-entry-test.true c.loop-entry.invariant.fits (subst₂ DivFits read c.in_ok-sum.ensures.0 c.in_ok-div.ensures.fits);
    }

pub returns : goal.returns
returns c =
    let p = c.as_slice-point.result.now in
    let end : c.loop-entry.entry-index ≡ length p = omega arith in
    subst (λ q. Gives stops.Memory (scaled_in q) (Ok c.loop-entry.scaled.items)) c.as_slice-point.ensures.value
    (tt, All-append StepFits (sum_steps (length p) (entry_at p) (λ _. [])) _ c.in_ok-sum.ensures.1 (fits-all (division p) (length p) c.loop-entry.entry-index c.loop-entry-test.false c.loop-entry.invariant.fits), ap Ok (c.loop-entry.invariant.value ∙ ap (λ n. listed n (scaled (length p) (entry_at p))) end))
