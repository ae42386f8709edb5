-- The steps of the weights.
use Rattle.std.proofs.Common.{ℕ, ◌+◌, ◌<◌, ◌≡◌, ◌≢◌, inl, inr, Bool, true, false, Some, List, [], ◌∷◌, length, get_or, set, All, Result, Ok, sym, ap, ap₂, ◌∙◌, subst, arith}
use Rattle.std.specs.Prelude.{◌&&◌, if◌then◌else◌, IfOk, IfErr, OnOk, OnErr}
use Rattle.std.proofs.lemmas.Bool.{cases_eq}
use Rattle.std.proofs.lemmas.Bool.Decides.{Decides-ltb}
use Rattle.std.proofs.lemmas.List.{get_or_default, get_or-set_same, get_or-set_other}
use Rattle.std.proofs.lemmas.List.Elements.{All-nil}
use Rattle.rational.specs.Rational.{ℚ, ◌*ℚ◌, zero_ℚ}
use Rattle.frac128.specs.Steps.{MulFits, step_of, Step, StepFits, StepsGive}
use Rattle.frac128.specs.declared.steps.Op.TheVariants.{Mul}
use Rattle.frac128.specs.declared.steps.Unfit.{Unfit}
use Rattle.game_theory.specs.Trees.{Tree, IsTree}
use Rattle.game_theory.specs.Behaviour.{Behaviour, action_probability, branch_probability}
use Rattle.best_replies.specs.Reaching.{weight}
use Rattle.best_replies.proofs.WeightLemmas.{branch-at, weight-own, weight-other, if_own, if_other}
use Rattle.frac128.proofs.StepRunLemmas.{product-gives}
use Rattle.verdicts.specs.TreeSteps.{has_factor, weight_step}
use Rattle.verdicts.specs.TreeWeights.{AreWeights}

module _ (t : Tree) (b : Behaviour) (i c s : ℕ) (w : IsTree t) (p : 0 < c) (l : c < t.size) (e : t.set (t.parent c) ≡ Some s) where
  -- the step by whether there is a factor
  abbrev step_if : Bool → List Step
  step_if x = if x then step_of Mul (weight t b i (t.parent c)) (branch_probability t b c) ∷ [] else []

  step-is : (x : Bool) → has_factor t i (Some s) ≡ x → weight_step t b i c ≡ step_if x
  step-is x h = ap step_if (ap₂ (λ y z. y && z) ((Decides-ltb 0 c).1 p) (ap (has_factor t i) e ∙ h))

  -- after an own node the weight stays
  pub weight-kept : (x : ℚ) → t.owner s ≡ Some i → x ≡ weight t b i (t.parent c) → StepsGive (weight_step t b i c) (weight t b i c) (Ok x)
  weight-kept x o is = (is ∙ sym (weight-own t b i c s w p l e o), subst (All StepFits) (sym (step-is false (if_own t i s false true o))) (All-nil StepFits))

  -- after any other it has the factor
  pub weight-more : (wt probability : ℚ) (r : Result ℚ Unfit) → t.owner s ≢ Some i → wt ≡ weight t b i (t.parent c) → probability ≡ action_probability t b s (t.branch c)
      → IfOk r (λ f. f ≡ wt *ℚ probability) → OnOk r (MulFits wt probability) → IfErr r (λ u. u ≡ step_of Mul wt probability) → OnErr r (MulFits wt probability → ⊥) → StepsGive (weight_step t b i c) (weight t b i c) r
  weight-more wt probability r o weight_is prob_is value fits step refused =
      let prob_of : probability ≡ branch_probability t b c = prob_is ∙ sym (branch-at t b c s e) in
      let steps : weight_step t b i c ≡ step_of Mul (weight t b i (t.parent c)) (branch_probability t b c) ∷ [] = step-is true (if_other t i s false true o) in
      rw (steps, weight-other t b i c s w p l e o, ← weight_is, ← prob_of) (product-gives wt probability r value fits step refused)

-- the weight of the parent is known
pub weight-read : (t : Tree) (b : Behaviour) (i c k : ℕ) (weights : List ℚ) (d : ℚ) → IsTree t → 0 < c → c < t.size → length weights ≡ t.size → k ≡ t.parent c → AreWeights t b i weights c → get_or weights k d ≡ weight t b i (t.parent c)
weight-read t b i c k weights d w p l long is h =
    let after : t.parent c < c = w.after_parent c p l in
    ap (λ x. get_or weights x d) is ∙ get_or_default weights (t.parent c) d zero_ℚ (omega arith) ∙ h (t.parent c) after

-- one weight more
pub weights-more : (t : Tree) (b : Behaviour) (i n : ℕ) (weights : List ℚ) (v : ℚ) → n < length weights → v ≡ weight t b i n → AreWeights t b i weights n → AreWeights t b i (set weights n v) (n + 1)
weights-more t b i n weights v l is h k m = elim (cases_eq k n) [
  | inl same ↦ ap (λ x. get_or (set weights n v) x zero_ℚ) same ∙ get_or-set_same weights n v zero_ℚ l ∙ is ∙ ap (weight t b i) (sym same)
  | inr apart ↦ get_or-set_other weights n k v zero_ℚ apart ∙ h k (omega arith)
]
