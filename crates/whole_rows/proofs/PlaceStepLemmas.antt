-- The steps and the number at one place of a row, by the three kinds of place.
use Rattle.std.proofs.Common.{ℕ, ℤ, ◌≡◌, ◌≢◌, ◌*ℤ◌, ◌-ℤ◌, neg_ℤ, refl, sym, ap, ◌∙◌, subst, [], ◌∷◌, Option, Some, None, MatchOption, All}
use Rattle.std.proofs.lemmas.List.Elements.{All-head}
use Rattle.frac128.proofs.DifferenceLemmas.{neg_fits}
use Rattle.linear_systems.proofs.PivotLemmas.{eqb_same, eqb_apart}
use Rattle.frac128.specs.Fraction.{PartFits}
use Rattle.frac128.specs.declared.steps.Unfit.{Unfit}
use Rattle.frac128.specs.Steps.{StepFits, IsFirstUnfit}
use Rattle.frac128.proofs.StepRunLemmas.{one-fits, first_unfit-same}
use Rattle.whole_rows.specs.Steps.{product_step, difference_step}
use Rattle.whole_rows.specs.Pivots.{place_steps, place_number}
use Rattle.whole_rows.proofs.FittingStepLemmas.{times_fits}

module _ (row b : ℕ → ℤ) (c : ℕ) (u v : ℤ) (p : ℕ) where
  pub steps_lead : p ≡ 0 → place_steps row b c u v p ≡ product_step (row 0) u ∷ []
  steps_lead e = subst (λ p. place_steps row b c u v p ≡ product_step (row 0) u ∷ []) (sym e) refl

  pub number_lead : p ≡ 0 → place_number row b c u v p ≡ row 0 *ℤ u
  number_lead e = subst (λ p. place_number row b c u v p ≡ row 0 *ℤ u) (sym e) refl

  pub steps_column : p ≢ 0 → p ≡ c → place_steps row b c u v p ≡ product_step (b 0) v ∷ []
  steps_column n e = rw (eqb_apart p 0 n, e, eqb_same c) refl

  pub number_column : p ≢ 0 → p ≡ c → place_number row b c u v p ≡ neg_ℤ (b 0 *ℤ v)
  number_column n e = rw (eqb_apart p 0 n, e, eqb_same c) refl

  pub steps_other : p ≢ 0 → p ≢ c → place_steps row b c u v p ≡ product_step (row p) u ∷ product_step (b p) v ∷ difference_step (row p *ℤ u) (b p *ℤ v) ∷ []
  steps_other n m = rw (eqb_apart p 0 n, eqb_apart p c m) refl

  pub number_other : p ≢ 0 → p ≢ c → place_number row b c u v p ≡ (row p *ℤ u) -ℤ (b p *ℤ v)
  number_other n m = rw (eqb_apart p 0 n, eqb_apart p c m) refl

  abbrev pub Told : Option ℤ → Type 0
  Told o = MatchOption o (¬ (All StepFits (place_steps row b c u v p))) (λ x. (x ≡ place_number row b c u v p) × PartFits x × All StepFits (place_steps row b c u v p))

  pub told_lead : (o : Option ℤ) → p ≡ 0 → MatchOption o (¬ (PartFits (row 0 *ℤ u))) (λ x. (x ≡ row 0 *ℤ u) × PartFits x) → Told o
  told_lead None e h = λ f. h ((times_fits (row 0) u).1 (All-head StepFits (product_step (row 0) u) [] (subst (All StepFits) (steps_lead e) f)))
  told_lead (Some x) e h = (h.0 ∙ sym (number_lead e), h.1, subst (All StepFits) (sym (steps_lead e)) (one-fits (product_step (row 0) u) ((times_fits (row 0) u).0 (subst PartFits h.0 h.1))))

  pub none_column : p ≢ 0 → p ≡ c → ¬ (PartFits (b 0 *ℤ v)) → All StepFits (place_steps row b c u v p) → ⊥
  none_column n e h f = h ((times_fits (b 0) v).1 (All-head StepFits (product_step (b 0) v) [] (subst (All StepFits) (steps_column n e) f)))

  pub some_column : (x y : ℤ) → p ≢ 0 → p ≡ c → (x ≡ b 0 *ℤ v) × PartFits x → y ≡ neg_ℤ x → (y ≡ place_number row b c u v p) × PartFits y × All StepFits (place_steps row b c u v p)
  some_column x y n e h is = (is ∙ ap neg_ℤ h.0 ∙ sym (number_column n e), subst PartFits (sym is) (neg_fits x h.1), subst (All StepFits) (sym (steps_column n e)) (one-fits (product_step (b 0) v) ((times_fits (b 0) v).0 (subst PartFits h.0 h.1))))

  pub told_other : (o : Option ℤ) → p ≢ 0 → p ≢ c → MatchOption o (¬ (All StepFits (product_step (row p) u ∷ product_step (b p) v ∷ difference_step (row p *ℤ u) (b p *ℤ v) ∷ []))) (λ d. (d ≡ (row p *ℤ u) -ℤ (b p *ℤ v)) × PartFits d × All StepFits (product_step (row p) u ∷ product_step (b p) v ∷ difference_step (row p *ℤ u) (b p *ℤ v) ∷ [])) → Told o
  told_other None n m h = λ f. h (subst (All StepFits) (steps_other n m) f)
  told_other (Some x) n m h = (h.0 ∙ sym (number_other n m), h.1, subst (All StepFits) (sym (steps_other n m)) h.2)

  pub first_lead : (e : Unfit) → p ≡ 0 → ¬ (All StepFits (place_steps row b c u v p)) → e ≡ product_step (row 0) u → IsFirstUnfit (place_steps row b c u v p) e
  first_lead e z h is = subst (λ s. IsFirstUnfit s e) (sym (steps_lead z)) (first_unfit-same (product_step (row 0) u) [] e (λ f. h (subst (All StepFits) (sym (steps_lead z)) (one-fits (product_step (row 0) u) f))) is)

  pub first_column : (e : Unfit) → p ≢ 0 → p ≡ c → ¬ (All StepFits (place_steps row b c u v p)) → e ≡ product_step (b 0) v → IsFirstUnfit (place_steps row b c u v p) e
  first_column e n z h is = subst (λ s. IsFirstUnfit s e) (sym (steps_column n z)) (first_unfit-same (product_step (b 0) v) [] e (λ f. h (subst (All StepFits) (sym (steps_column n z)) (one-fits (product_step (b 0) v) f))) is)

  pub first_other : (e : Unfit) → p ≢ 0 → p ≢ c → IsFirstUnfit (product_step (row p) u ∷ product_step (b p) v ∷ difference_step (row p *ℤ u) (b p *ℤ v) ∷ []) e → IsFirstUnfit (place_steps row b c u v p) e
  first_other e n m h = subst (λ s. IsFirstUnfit s e) (sym (steps_other n m)) h

  pub unfit_other : p ≢ 0 → p ≢ c → ¬ (All StepFits (place_steps row b c u v p)) → All StepFits (product_step (row p) u ∷ product_step (b p) v ∷ difference_step (row p *ℤ u) (b p *ℤ v) ∷ []) → ⊥
  unfit_other n m h f = h (subst (All StepFits) (sym (steps_other n m)) f)
