-- What a behaviour pays from a node on: the steps, and what they give.
use Rattle.std.proofs.Common.{ℕ, ◌<◌, ◌≡◌, Option, Some, None, List, [], ◌∷◌, ◌++◌, All, Result, Ok, refl, sym, ap, ◌∙◌, subst}
use Rattle.std.specs.Prelude.{IfOk, IfErr, OnOk, OnErr}
use Rattle.std.proofs.lemmas.List.Elements.{All-nil}
use Rattle.rational.specs.Rational.{ℚ, ◌+ℚ◌}
use Rattle.frac128.specs.Steps.{AddFits, step_of, Step, StepFits, IsFirstUnfit, StepsGive}
use Rattle.frac128.specs.declared.steps.Op.TheVariants.{Add}
use Rattle.frac128.specs.declared.steps.Unfit.{Unfit}
use Rattle.game_theory.specs.Children.{child}
use Rattle.game_theory.specs.Trees.{Tree, IsTree}
use Rattle.game_theory.specs.Behaviour.{Behaviour, action_probability, value}
use Rattle.game_theory.proofs.NamedChildLemmas.{child-is_child, child-later}
use Rattle.game_theory.proofs.ValueLemmas.{value-by_actions, value-end}
use Rattle.pure_payoffs.proofs.NodeStepLemmas.{chance_steps-same}
use Rattle.frac128.proofs.StepRunLemmas.{first_unfit-more, added-gives, following-gives}
use Rattle.verdicts.specs.TreeSteps.{behaviour_node_steps, behaviour_steps_after, behaviour_steps_to, behaviour_steps_at, behaviour_value_after}
use Rattle.verdicts.proofs.TreeDepthLemmas.{told-recurs}

module _ (t : Tree) (b : Behaviour) (i : ℕ) (w : IsTree t) where
  -- the steps at a node, where those of later nodes are the same
  node_steps-same : (f g : ℕ → List Step) (k : ℕ) → k < t.size → ((c : ℕ) → k < c → c < t.size → f c ≡ g c) → behaviour_node_steps t b i f k (t.set k) ≡ behaviour_node_steps t b i g k (t.set k)
  node_steps-same f g k l h = go (t.set k) refl
    where
      go : (o : Option ℕ) → t.set k ≡ o → behaviour_node_steps t b i f k o ≡ behaviour_node_steps t b i g k o
      go None e = refl
      go (Some s) e =
          ap (λ x. x ++ step_of Add (t.pays k i) (behaviour_value_after t b i k s) ∷ [])
          (chance_steps-same (t.actions s) (action_probability t b s) _ _ (λ a. f (child t k a)) (λ a. g (child t k a)) (λ a m. refl) (λ a m. let c = child-later t k s a w l e m in h (child t k a) c.0 c.1))

  -- the steps of a node, by those of its children
  steps-recur : (k : ℕ) → k < t.size → behaviour_steps_at t b i k ≡ behaviour_node_steps t b i (behaviour_steps_at t b i) k (t.set k)
  steps-recur k l = told-recurs t.size (λ f c. behaviour_node_steps t b i f c (t.set c)) (behaviour_steps_to t b i) (λ d c. refl) node_steps-same k l

  module _ (k : ℕ) (l : k < t.size) where
    -- an end gives what its outcome pays
    pub behaviour-end : (p : ℚ) → t.set k ≡ None → p ≡ t.pays k i → StepsGive (behaviour_steps_at t b i k) (value t b i k) (Ok p)
    behaviour-end p e is =
        (is ∙ sym (value-end t b i k w l e), subst (All StepFits) (sym (steps-recur k l ∙ ap (behaviour_node_steps t b i (behaviour_steps_at t b i) k) e)) (All-nil StepFits))

    module _ (s : ℕ) (e : t.set k ≡ Some s) where
      abbrev after : List Step
      after = behaviour_steps_after t b i (behaviour_steps_at t b i) k s

      -- at any other node the last step adds what comes after it
      steps-inner : behaviour_steps_at t b i k ≡ after ++ step_of Add (t.pays k i) (behaviour_value_after t b i k s) ∷ []
      steps-inner = steps-recur k l ∙ ap (behaviour_node_steps t b i (behaviour_steps_at t b i) k) e

      value-inner : value t b i k ≡ t.pays k i +ℚ behaviour_value_after t b i k s
      value-inner = value-by_actions t b i k s (child t k) w l e (λ a m. child-is_child t k s a w l e m)

      -- the first step after a node that does not fit is the node's
      pub behaviour-refused : (u : Step) → IsFirstUnfit after u → IsFirstUnfit (behaviour_steps_at t b i k) u
      behaviour-refused u h = subst (λ steps. IsFirstUnfit steps u) (sym steps-inner) (first_unfit-more after _ u h)

      -- what the addition to the outcome's payoff gives is what the node gives
      pub behaviour-added : (p x : ℚ) (r : Result ℚ Unfit) → p ≡ t.pays k i → x ≡ behaviour_value_after t b i k s → All StepFits after
          → IfOk r (λ f. f ≡ p +ℚ x) → OnOk r (AddFits p x) → IfErr r (λ u. u ≡ step_of Add p x) → OnErr r (AddFits p x → ⊥) → StepsGive (behaviour_steps_at t b i k) (value t b i k) r
      behaviour-added p x r pays is fit sum fits step refused =
          let whole = following-gives after (step_of Add p x ∷ []) (p +ℚ x) r fit (added-gives p x r sum fits step refused) in
          rw (steps-inner, value-inner, ← is, ← pays) whole
