-- What the steps of a node give.
use Rattle.std.proofs.Common.{ℕ, ◌<◌, ◌≡◌, Option, Some, None, [], ◌∷◌, All, Result, Ok, sym, ◌∙◌, subst}
use Rattle.std.specs.Prelude.{IfOk, IfErr, OnOk, OnErr}
use Rattle.std.proofs.lemmas.List.Elements.{All-nil}
use Rattle.game_theory.specs.Children.{child}
use Rattle.rational.specs.Rational.{ℚ, ◌+ℚ◌}
use Rattle.frac128.specs.Steps.{AddFits, step_of, Step, StepFits, IsFirstUnfit, StepsGive}
use Rattle.frac128.specs.declared.steps.Op.TheVariants.{Add}
use Rattle.frac128.specs.declared.steps.Unfit.{Unfit}
use Rattle.game_theory.specs.Trees.{Tree, IsTree}
use Rattle.game_theory.specs.Behaviour.{value, pure}
use Rattle.pure_payoffs.specs.Steps.{steps_after, steps_at, value_after}
use Rattle.pure_payoffs.proofs.NodeStepLemmas.{steps_at-end, steps_at-inner, value-inner, value-last}
use Rattle.frac128.proofs.StepRunLemmas.{first_unfit-more, added-gives, following-gives}

-- what a child gives is what comes after a player's node
pub owned-gives : (t : Tree) (choice : ℕ → ℕ) (i k s j c : ℕ) (o : Option ℕ) (r : Result ℚ Unfit) → o ≡ Some j → c ≡ child t k (choice s) → StepsGive (steps_at t choice i c) (value t (pure choice) i c) r → StepsGive (steps_after t choice i (steps_at t choice i) k s o) (value_after t choice i k s o) r
owned-gives t choice i k s j c o r owner e g = rw owner (subst (λ x. StepsGive (steps_at t choice i x) (value t (pure choice) i x) r) e g)

module _ (t : Tree) (choice : ℕ → ℕ) (i : ℕ) (w : IsTree t) (chosen : (s j : ℕ) → s < t.sets → t.owner s ≡ Some j → choice s < t.actions s) (k : ℕ) (l : k < t.size) where
  -- an end gives what its outcome pays
  pub end-gives : (p : ℚ) → t.set k ≡ None → p ≡ t.pays k i → StepsGive (steps_at t choice i k) (value t (pure choice) i k) (Ok p)
  end-gives p e is = (is ∙ sym (value-last t choice i w chosen k l e), subst (All StepFits) (sym (steps_at-end t choice i w chosen k l e)) (All-nil StepFits))

  module _ (s : ℕ) (e : t.set k ≡ Some s) where
    -- the first step after a node that does not fit is the node's
    pub following-refused : (u : Step) → IsFirstUnfit (steps_after t choice i (steps_at t choice i) k s (t.owner s)) u → IsFirstUnfit (steps_at t choice i k) u
    following-refused u h = subst (λ steps. IsFirstUnfit steps u) (sym (steps_at-inner t choice i w chosen k s l e)) (first_unfit-more (steps_after t choice i (steps_at t choice i) k s (t.owner s)) _ u h)

    -- what the addition to the outcome's payoff gives is what the node gives
    pub node-added : (p x : ℚ) (r : Result ℚ Unfit) → p ≡ t.pays k i → x ≡ value_after t choice i k s (t.owner s) → All StepFits (steps_after t choice i (steps_at t choice i) k s (t.owner s))
        → IfOk r (λ f. f ≡ p +ℚ x) → OnOk r (AddFits p x) → IfErr r (λ u. u ≡ step_of Add p x) → OnErr r (AddFits p x → ⊥) → StepsGive (steps_at t choice i k) (value t (pure choice) i k) r
    node-added p x r pays is fit sum fits step refused =
        let whole = following-gives (steps_after t choice i (steps_at t choice i) k s (t.owner s)) (step_of Add p x ∷ []) (p +ℚ x) r fit (added-gives p x r sum fits step refused) in
        rw (steps_at-inner t choice i w chosen k s l e, value-inner t choice i w chosen k s l e, ← is, ← pays) whole
