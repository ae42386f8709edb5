-- The steps with which products are added to sums.
use Rattle.std.proofs.Common.{◌≡◌, ◌≢◌, Bool, true, false, List, [], ◌∷◌, All, Ok, Result, refl, sym, ap, ◌∙◌, subst}
use Rattle.std.specs.Prelude.{if◌then◌else◌, IfOk, IfErr, OnOk, OnErr}
use Rattle.std.proofs.lemmas.List.Elements.{All-nil}
use Rattle.rational.specs.Rational.{ℚ, ◌+ℚ◌, ◌*ℚ◌, zero_ℚ}
use Rattle.rational.specs.Tests.{eq_ℚ}
use Rattle.rational.proofs.Decide.{eq_ℚ-decides}
use Rattle.rational.proofs.RationalRing.{+ℚ-zero}
use Rattle.rational.proofs.Rules.{zero-*ℚ}
use Rattle.frac128.specs.Steps.{AddFits, MulFits, step_of, Step, StepFits, IsFirstUnfit, StepsGive}
use Rattle.frac128.specs.declared.steps.Op.TheVariants.{Add, Mul}
use Rattle.frac128.specs.declared.steps.Unfit.{Unfit}
use Rattle.frac128.proofs.StepRunLemmas.{first_unfit-here, one-fits, added-gives, following-gives}
use Rattle.verdicts.specs.TableChecks.{weighed_steps}

not_true : (b : Bool) → (b ≡ true → ⊥) → b ≡ false
not_true true h = absurd (h refl)
not_true false h = refl

module _ (sum weight number : ℚ) where
  abbrev both : List Step
  both = step_of Mul weight number ∷ step_of Add sum (weight *ℚ number) ∷ []

  -- a weight of 0 adds nothing
  weighed-none : weight ≡ zero_ℚ → weighed_steps weight number sum ≡ []
  weighed-none e = ap (λ b. if b then [] else both) ((eq_ℚ-decides weight zero_ℚ).1 e)

  weighed-some : weight ≢ zero_ℚ → weighed_steps weight number sum ≡ both
  weighed-some ne = ap (λ b. if b then [] else both) (not_true (eq_ℚ weight zero_ℚ) (λ e. ne ((eq_ℚ-decides weight zero_ℚ).0 e)))

  pub nothing-added : weight ≡ zero_ℚ → StepsGive (weighed_steps weight number sum) (sum +ℚ (weight *ℚ number)) (Ok sum)
  nothing-added e =
      (sym (ap (λ x. sum +ℚ (x *ℚ number)) e ∙ ap (λ x. sum +ℚ x) (zero-*ℚ number) ∙ +ℚ-zero sum), subst (All StepFits) (sym (weighed-none e)) (All-nil StepFits))

  -- another weight is multiplied, and the product is added
  pub product-unfit : (u : Step) → weight ≢ zero_ℚ → u ≡ step_of Mul weight number → (MulFits weight number → ⊥) → IsFirstUnfit (weighed_steps weight number sum) u
  product-unfit u ne is fails =
      subst (λ s. IsFirstUnfit s u) (sym (weighed-some ne))
      (subst (IsFirstUnfit both) (sym is) (first_unfit-here (step_of Mul weight number) (step_of Add sum (weight *ℚ number) ∷ []) fails))

  pub product-added : (product : ℚ) (r : Result ℚ Unfit) → weight ≢ zero_ℚ → product ≡ weight *ℚ number → MulFits weight number
      → IfOk r (λ v. v ≡ sum +ℚ product) → OnOk r (AddFits sum product) → IfErr r (λ e. e ≡ step_of Add sum product) → OnErr r (AddFits sum product → ⊥)
      → StepsGive (weighed_steps weight number sum) (sum +ℚ (weight *ℚ number)) r
  product-added product r ne is fits value added step refused =
      subst (λ s. StepsGive s (sum +ℚ (weight *ℚ number)) r) (sym (weighed-some ne))
      (following-gives (step_of Mul weight number ∷ []) (step_of Add sum (weight *ℚ number) ∷ []) (sum +ℚ (weight *ℚ number)) r (one-fits (step_of Mul weight number) fits)
      (subst (λ p. StepsGive (step_of Add sum p ∷ []) (sum +ℚ p) r) is (added-gives sum product r value added step refused)))
