-- The steps of a sum whose numbers are added as soon as they are computed.
use Rattle.std.proofs.Common.{ℕ, ◌+◌, ◌<◌, ◌≡◌, List, [], ◌∷◌, ◌++◌, All, ap₂, ◌∙◌, subst, add-one, arith}
use Rattle.std.proofs.lemmas.List.Elements.{All-append}
use Rattle.lists.proofs.ElementLemmas.{made-same}
use Rattle.rational.specs.Rational.{ℚ, ◌+ℚ◌}
use Rattle.rational.specs.Sum.{sum_to}
use Rattle.rational.proofs.SumLemmas.{sum_to-same}
use Rattle.frac128.specs.Steps.{AddFits, step_of, Step, StepFits, IsFirstUnfit, sum_steps}
use Rattle.frac128.specs.declared.steps.Op.TheVariants.{Add}
use Rattle.frac128.proofs.StepPartLemmas.{parts-more, part-refused}
use Rattle.frac128.proofs.StepRunLemmas.{first_unfit-more, first_unfit-following, first_unfit-here, one-fits}

-- the steps of one number, and its addition
abbrev steps_at : (ℕ → ℚ) → (ℕ → List Step) → ℕ → List Step
steps_at v later k = later k ++ step_of Add (sum_to k v) (v k) ∷ []

-- the steps are the same where the numbers and their steps are
pub sum_steps-same : (n : ℕ) (v u : ℕ → ℚ) (f g : ℕ → List Step) → ((a : ℕ) → a < n → v a ≡ u a) → ((a : ℕ) → a < n → f a ≡ g a) → sum_steps n v f ≡ sum_steps n u g
sum_steps-same n v u f g e h =
    made-same (steps_at v f) (steps_at u g) 0 n
    (λ a from l. ap₂ (λ x y. x ++ y) (h a (omega (arith, l))) (ap₂ (λ x y. step_of Add x y ∷ []) (sum_to-same a v u (λ k m. e k (omega (arith, l, m)))) (e a (omega (arith, l)))))

module _ (v : ℕ → ℚ) (later : ℕ → List Step) (a : ℕ) (sum x : ℚ) (sum_is : sum ≡ sum_to a v) (fit : All StepFits (sum_steps a v later)) where
  -- one number more
  pub sum-more : x ≡ v a → All StepFits (later a) → (y : ℚ) → y ≡ sum +ℚ x → AddFits sum x → (y ≡ sum_to (a + 1) v) × All StepFits (sum_steps (a + 1) v later)
  sum-more is fits y sum_of add =
      let step : All StepFits (step_of Add (sum_to a v) (v a) ∷ []) = subst (λ s. All StepFits (step_of Add s (v a) ∷ [])) sum_is (subst (λ z. All StepFits (step_of Add sum z ∷ [])) is (one-fits (step_of Add sum x) add)) in
      ((rw add-one (sum_of ∙ ap₂ (λ p q. p +ℚ q) sum_is is)), parts-more (steps_at v later) a fit (All-append StepFits (later a) _ fits step))

  module _ (n : ℕ) (u : Step) (l : a < n) where
    -- the first step of its computation that does not fit is that of the sum
    pub number-refused : IsFirstUnfit (later a) u → IsFirstUnfit (sum_steps n v later) u
    number-refused h = part-refused (steps_at v later) a n u l fit (first_unfit-more (later a) _ u h)

    -- an addition that does not fit is the sum's first such step
    pub addition-refused : x ≡ v a → All StepFits (later a) → u ≡ step_of Add sum x → (AddFits sum x → ⊥) → IsFirstUnfit (sum_steps n v later) u
    addition-refused is fits step refused =
        let here : IsFirstUnfit (step_of Add sum x ∷ []) (step_of Add sum x) = first_unfit-here (step_of Add sum x) [] refused in
        let there : IsFirstUnfit (step_of Add (sum_to a v) (v a) ∷ []) u = rw (← sum_is, ← is, step) here in
        part-refused (steps_at v later) a n u l fit (first_unfit-following (later a) _ u fits there)
