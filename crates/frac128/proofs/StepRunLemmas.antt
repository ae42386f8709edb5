-- Steps one after another: all of them fit, or one is the first that does not, and what they give.
use Rattle.std.proofs.Common.{◌≡◌, ◌↔◌, List, [], ◌∷◌, ◌++◌, All, Result, Ok, Err, refl, sym, ap, ◌∙◌, subst, append_assoc}
use Rattle.std.specs.Prelude.{IfOk, IfErr, OnOk, OnErr}
use Rattle.std.proofs.lemmas.List.Elements.{All-nil, All-cons, All-head, All-tail, All-append}
use Rattle.rational.specs.Rational.{ℚ, ◌+ℚ◌, ◌-ℚ◌, ◌*ℚ◌}
use Rattle.frac128.specs.Steps.{AddFits, SubFits, MulFits, step_of, Step, StepFits, IsFirstUnfit, StepsGive}
use Rattle.frac128.specs.declared.steps.Op.TheVariants.{Add, Sub, Mul}
use Rattle.frac128.specs.declared.steps.Unfit.{Unfit}

-- a step that fits stands alone
pub one-fits : (step : Step) → StepFits step → All StepFits (step ∷ [])
one-fits step fits = All-cons StepFits step [] fits (All-nil StepFits)

-- three steps fit where each does
pub three-fit : (a b c : Step) → All StepFits (a ∷ b ∷ c ∷ []) ↔ (StepFits a × StepFits b × StepFits c)
three-fit a b c =
    (λ h. (All-head StepFits a (b ∷ c ∷ []) h, All-head StepFits b (c ∷ []) (rest h), All-head StepFits c [] (All-tail StepFits b (c ∷ []) (rest h))), λ h. All-cons StepFits a (b ∷ c ∷ []) h.0 (All-cons StepFits b (c ∷ []) h.1 (one-fits c h.2)))
  where
    rest : All StepFits (a ∷ b ∷ c ∷ []) → All StepFits (b ∷ c ∷ [])
    rest = All-tail StepFits a (b ∷ c ∷ [])

-- one more step that fits
pub fits-more : (steps : List Step) (step : Step) → All StepFits steps → StepFits step → All StepFits (steps ++ step ∷ [])
fits-more steps step h fits = All-append StepFits steps (step ∷ []) h (one-fits step fits)

-- the first step that does not fit stays the first before further steps
pub first_unfit-more : (steps rest : List Step) (u : Step) → IsFirstUnfit steps u → IsFirstUnfit (steps ++ rest) u
first_unfit-more steps rest u h =
    record { before = h.before; following = h.following ++ rest; is_there = ap (λ s. s ++ rest) h.is_there ∙ append_assoc h.before (u ∷ h.following) rest; earlier_fit = h.earlier_fit; does_not_fit = h.does_not_fit }

-- it stays the first after steps that fit
pub first_unfit-following : (steps rest : List Step) (u : Step) → All StepFits steps → IsFirstUnfit rest u → IsFirstUnfit (steps ++ rest) u
first_unfit-following steps rest u fit h =
    record { before = steps ++ h.before; following = h.following; is_there = ap (λ s. steps ++ s) h.is_there ∙ sym (append_assoc steps h.before (u ∷ h.following)); earlier_fit = All-append StepFits steps h.before fit h.earlier_fit; does_not_fit = h.does_not_fit }

-- it stays the first after one step that fits
pub first_unfit-next : (step : Step) (rest : List Step) (u : Step) → StepFits step → IsFirstUnfit rest u → IsFirstUnfit (step ∷ rest) u
first_unfit-next step rest u fits h =
    record { before = step ∷ h.before; following = h.following; is_there = ap (λ s. step ∷ s) h.is_there; earlier_fit = All-cons StepFits step h.before fits h.earlier_fit; does_not_fit = h.does_not_fit }

-- a step that does not fit is the first from itself on
pub first_unfit-here : (u : Step) (following : List Step) → (StepFits u → ⊥) → IsFirstUnfit (u ∷ following) u
first_unfit-here u following refused = record { before = []; following = following; is_there = refl; earlier_fit = All-nil StepFits; does_not_fit = refused }

-- so is one that is the same
pub first_unfit-same : (step : Step) (following : List Step) (u : Step) → (StepFits step → ⊥) → u ≡ step → IsFirstUnfit (step ∷ following) u
first_unfit-same step following u refused is = subst (IsFirstUnfit (step ∷ following)) (sym is) (first_unfit-here step following refused)

-- one more step that does not fit
pub unfit-more : (steps : List Step) (step u : Step) → All StepFits steps → (StepFits step → ⊥) → u ≡ step → IsFirstUnfit (steps ++ step ∷ []) u
unfit-more steps step u h refused is = first_unfit-following steps (step ∷ []) u h (first_unfit-same step [] u refused is)

-- what an addition gives
pub added-gives : (a b : ℚ) (r : Result ℚ Unfit) → IfOk r (λ f. f ≡ a +ℚ b) → OnOk r (AddFits a b) → IfErr r (λ e. e ≡ step_of Add a b) → OnErr r (AddFits a b → ⊥) → StepsGive (step_of Add a b ∷ []) (a +ℚ b) r
added-gives a b (Ok v) value fits step refused = (value, one-fits (step_of Add a b) fits)
added-gives a b (Err u) value fits step refused = first_unfit-same (step_of Add a b) [] u refused step

-- what a difference gives
pub subtracted-gives : (a b : ℚ) (r : Result ℚ Unfit) → IfOk r (λ f. f ≡ a -ℚ b) → OnOk r (SubFits a b) → IfErr r (λ e. e ≡ step_of Sub a b) → OnErr r (SubFits a b → ⊥) → StepsGive (step_of Sub a b ∷ []) (a -ℚ b) r
subtracted-gives a b (Ok v) value fits step refused = (value, one-fits (step_of Sub a b) fits)
subtracted-gives a b (Err u) value fits step refused = first_unfit-same (step_of Sub a b) [] u refused step

-- what a product gives
pub product-gives : (a b : ℚ) (r : Result ℚ Unfit) → IfOk r (λ f. f ≡ a *ℚ b) → OnOk r (MulFits a b) → IfErr r (λ e. e ≡ step_of Mul a b) → OnErr r (MulFits a b → ⊥) → StepsGive (step_of Mul a b ∷ []) (a *ℚ b) r
product-gives a b (Ok v) value fits step refused = (value, one-fits (step_of Mul a b) fits)
product-gives a b (Err u) value fits step refused = first_unfit-same (step_of Mul a b) [] u refused step

-- steps that fit change nothing in what those after them give
pub following-gives : (steps rest : List Step) (v : ℚ) (r : Result ℚ Unfit) → All StepFits steps → StepsGive rest v r → StepsGive (steps ++ rest) v r
following-gives steps rest v (Ok x) fit g = (g.0, All-append StepFits steps rest fit g.1)
following-gives steps rest v (Err u) fit g = first_unfit-following steps rest u fit g
