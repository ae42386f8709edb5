-- The steps of one branch of chance, and how they follow those of the earlier ones.
use Rattle.std.proofs.Common.{ℕ, zero, suc, ◌+◌, ◌<◌, ◌≤◌, ◌≡◌, ◌≢◌, inl, inr, List, [], ◌∷◌, ◌++◌, All, Result, Ok, sym, ap, ap₂, ◌∙◌, subst, add-one, arith, eq-or-lt_of_le, le_of_suc-le-suc}
use Rattle.std.specs.Prelude.{IfOk, IfErr, OnOk, OnErr, if◌then◌else◌}
use Rattle.std.proofs.lemmas.Bool.{false_from_ne_true}
use Rattle.std.proofs.lemmas.List.Elements.{All-nil, All-append}
use Rattle.rational.proofs.Decide.{eq_ℚ-decides}
use Rattle.rational.specs.Rational.{ℚ, ◌+ℚ◌, ◌*ℚ◌, zero_ℚ}
use Rattle.rational.specs.Sum.{sum_to}
use Rattle.rational.proofs.RationalRing.{+ℚ-zero}
use Rattle.rational.proofs.Rules.{zero-*ℚ}
use Rattle.frac128.specs.Steps.{AddFits, MulFits, step_of, Step, StepFits, IsFirstUnfit, StepsGive}
use Rattle.frac128.specs.declared.steps.Op.TheVariants.{Add, Mul}
use Rattle.frac128.specs.declared.steps.Unfit.{Unfit}
use Rattle.pure_payoffs.specs.Steps.{branch_steps, chance_steps}
use Rattle.frac128.proofs.StepRunLemmas.{first_unfit-following, first_unfit-here, first_unfit-more, one-fits, added-gives, following-gives}

-- a branch with the probability 0 adds nothing
pub skipped-gives : (prob sum v : ℚ) (steps : List Step) → prob ≡ zero_ℚ → StepsGive (branch_steps prob sum v steps) (sum +ℚ prob *ℚ v) (Ok sum)
skipped-gives prob sum v steps e =
    (sym (ap (λ x. sum +ℚ x) (ap (λ x. x *ℚ v) e ∙ zero-*ℚ v) ∙ +ℚ-zero sum), subst (All StepFits) (sym (ap (λ b. if b then [] else steps ++ step_of Mul prob v ∷ step_of Add sum (prob *ℚ v) ∷ []) ((eq_ℚ-decides prob zero_ℚ).1 e))) (All-nil StepFits))

-- the steps of any other branch
taken-steps : (prob sum v : ℚ) (steps : List Step) → prob ≢ zero_ℚ → branch_steps prob sum v steps ≡ steps ++ step_of Mul prob v ∷ step_of Add sum (prob *ℚ v) ∷ []
taken-steps prob sum v steps other =
    ap (λ b. if b then [] else steps ++ step_of Mul prob v ∷ step_of Add sum (prob *ℚ v) ∷ []) (false_from_ne_true _ (λ t. other ((eq_ℚ-decides prob zero_ℚ).0 t)))

-- the first step of the child that does not fit is the branch's
pub child-refused : (prob sum v : ℚ) (steps : List Step) (u : Step) → prob ≢ zero_ℚ → IsFirstUnfit steps u → IsFirstUnfit (branch_steps prob sum v steps) u
child-refused prob sum v steps u other h = rw (taken-steps prob sum v steps other) (first_unfit-more steps _ u h)

-- a product that does not fit is the branch's first such step
pub product-refused : (prob sum v x : ℚ) (steps : List Step) (u : Step) → prob ≢ zero_ℚ → x ≡ v → All StepFits steps → u ≡ step_of Mul prob x → (MulFits prob x → ⊥) → IsFirstUnfit (branch_steps prob sum v steps) u
product-refused prob sum v x steps u other e fit step refused =
    rw (taken-steps prob sum v steps other, step, ← e) (first_unfit-following steps _ (step_of Mul prob x) fit (first_unfit-here (step_of Mul prob x) _ refused))

-- what the addition of a product gives is what the branch gives
pub product-added : (prob sum v x y : ℚ) (steps : List Step) (r : Result ℚ Unfit) → prob ≢ zero_ℚ → x ≡ v → y ≡ prob *ℚ x → All StepFits steps → MulFits prob x
    → IfOk r (λ f. f ≡ sum +ℚ y) → OnOk r (AddFits sum y) → IfErr r (λ e. e ≡ step_of Add sum y) → OnErr r (AddFits sum y → ⊥) → StepsGive (branch_steps prob sum v steps) (sum +ℚ prob *ℚ v) r
product-added prob sum v x y steps r other e product fit fits value sum_fits step refused =
    let last : StepsGive (step_of Add sum y ∷ []) (sum +ℚ y) r = added-gives sum y r value sum_fits step refused in
    let both = following-gives (step_of Mul prob x ∷ []) (step_of Add sum y ∷ []) (sum +ℚ y) r (one-fits (step_of Mul prob x) fits) last in
    let whole = following-gives steps (step_of Mul prob x ∷ step_of Add sum y ∷ []) (sum +ℚ y) r fit both in
    rw (taken-steps prob sum v steps other, ← e, ← product) whole

-- the first step of chance that does not fit is the same where there are more actions
first_unfit-chance : (m n : ℕ) (chances values : ℕ → ℚ) (later : ℕ → List Step) (u : Step) → m ≤ n → IsFirstUnfit (chance_steps m chances values later) u → IsFirstUnfit (chance_steps n chances values later) u
first_unfit-chance m zero chances values later u h first =
    let e : m ≡ 0 = omega arith in subst (λ k. IsFirstUnfit (chance_steps k chances values later) u) e first
first_unfit-chance m (suc n) chances values later u h first = elim (eq-or-lt_of_le h) [
  | inl e ↦ subst (λ k. IsFirstUnfit (chance_steps k chances values later) u) e first
  | inr l ↦ first_unfit-more (chance_steps n chances values later) _ u (first_unfit-chance m n chances values later u (le_of_suc-le-suc l) first)
]

module _ (chances values : ℕ → ℚ) (later : ℕ → List Step) (a : ℕ) (sum prob : ℚ) (sum_is : sum ≡ sum_to a (λ b. chances b *ℚ values b)) (prob_is : prob ≡ chances a) (fit : All StepFits (chance_steps a chances values later)) where
  -- one more branch of chance that fits
  pub branch-more : (x : ℚ) → x ≡ sum +ℚ prob *ℚ values a → All StepFits (branch_steps prob sum (values a) (later a)) → (x ≡ sum_to (a + 1) (λ b. chances b *ℚ values b)) × All StepFits (chance_steps (a + 1) chances values later)
  branch-more x is fits =
      let steps : All StepFits (branch_steps (chances a) (sum_to a (λ b. chances b *ℚ values b)) (values a) (later a)) = rw (← sum_is, ← prob_is) fits in
      rw add-one (is ∙ ap₂ (λ y z. y +ℚ z *ℚ values a) sum_is prob_is, All-append StepFits (chance_steps a chances values later) _ fit steps)

  -- the first step of one more branch that does not fit is that of all branches
  pub branch-refused : (n : ℕ) (u : Step) → a < n → IsFirstUnfit (branch_steps prob sum (values a) (later a)) u → IsFirstUnfit (chance_steps n chances values later) u
  branch-refused n u l h =
      let step : IsFirstUnfit (branch_steps (chances a) (sum_to a (λ b. chances b *ℚ values b)) (values a) (later a)) u = rw (← sum_is, ← prob_is) h in
      first_unfit-chance (suc a) n chances values later u (omega arith) (first_unfit-following (chance_steps a chances values later) _ u fit step)
