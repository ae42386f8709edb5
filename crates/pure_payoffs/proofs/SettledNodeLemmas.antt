-- Nodes in whose subtrees no player moves give the same whatever the players choose.
use Rattle.std.proofs.Common.{ℕ, zero, suc, ◌<◌, ◌≡◌, Option, Some, None, [], ◌∷◌, ◌++◌, All, Ok, refl, ap₂, ◌∙◌, subst}
use Rattle.game_theory.proofs.NamedChildLemmas.{child-is_child}
use Rattle.game_theory.specs.Children.{child}
use Rattle.rational.specs.Rational.{ℚ}
use Rattle.frac128.specs.Steps.{step_of, StepFits}
use Rattle.frac128.specs.declared.steps.Op.TheVariants.{Add}
use Rattle.game_theory.specs.Trees.{Tree, IsTree, IsChild}
use Rattle.game_theory.specs.Behaviour.{value, pure}
use Rattle.game_theory.proofs.SubtreeLemmas.{above_parent, value-agree}
use Rattle.pure_payoffs.specs.Plays.{GiveAt}
use Rattle.pure_payoffs.specs.Settled.{IsSettled, Settles}
use Rattle.pure_payoffs.specs.Steps.{node_steps, steps_after, steps_to, value_after}
use Rattle.pure_payoffs.proofs.NodeStepLemmas.{chance_steps-same, weighted-same}

-- ---- what they give
module _ (t : Tree) (w : IsTree t) where
  -- what lies in the subtree of a child lies in that of the node
  IsSettled-child : (k a c : ℕ) → IsSettled t k → IsChild t k a c → IsSettled t c
  IsSettled-child k a c h is x l n = h x l (suc n.0, above_parent t n.0 k c x is.0 is.2 n.1)

  module _ (i : ℕ) (one other : ℕ → ℕ) where
    -- the value is the same for each choice
    settled-value : (k : ℕ) → k < t.size → IsSettled t k → value t (pure one) i k ≡ value t (pure other) i k
    settled-value k l h = value-agree t (pure one) (pure other) i k w l (λ c s j a n m e o b. absurd (h c m n j s (record { at_set = e; own = o })))

    -- what comes after a node of chance is, where the steps of the children are
    module _ (d k s : ℕ) (l : k < t.size) (h : IsSettled t k) (e : t.set k ≡ Some s) (later : (c : ℕ) → c < t.size → IsSettled t c → steps_to t one i d c ≡ steps_to t other i d c) where
      values : (a : ℕ) → a < t.actions s → value t (pure one) i (child t k a) ≡ value t (pure other) i (child t k a)
      values a m = let c = child-is_child t k s a w l e m in settled-value (child t k a) c.1 (IsSettled-child k a (child t k a) h c)

      steps : (a : ℕ) → a < t.actions s → steps_to t one i d (child t k a) ≡ steps_to t other i d (child t k a)
      steps a m = let c = child-is_child t k s a w l e m in later (child t k a) c.1 (IsSettled-child k a (child t k a) h c)

      by_owner : (o : Option ℕ) → t.owner s ≡ o → steps_after t one i (steps_to t one i d) k s o ++ step_of Add (t.pays k i) (value_after t one i k s o) ∷ []
          ≡ steps_after t other i (steps_to t other i d) k s o ++ step_of Add (t.pays k i) (value_after t other i k s o) ∷ []
      by_owner None p =
          ap₂ (λ x y. x ++ step_of Add (t.pays k i) y ∷ [])
          (chance_steps-same (t.actions s) (t.chance s) (λ a. value t (pure one) i (child t k a)) (λ a. value t (pure other) i (child t k a)) (λ a. steps_to t one i d (child t k a)) (λ a. steps_to t other i d (child t k a)) values steps)
          (weighted-same (t.actions s) (t.chance s) (λ a. value t (pure one) i (child t k a)) (λ a. value t (pure other) i (child t k a)) values)
      by_owner (Some j) p = absurd (h k l (0, refl) j s (record { at_set = e; own = p }))

    -- the steps of a node are, where those of the children are
    settled-step : (d k : ℕ) → k < t.size → IsSettled t k → ((c : ℕ) → c < t.size → IsSettled t c → steps_to t one i d c ≡ steps_to t other i d c) → steps_to t one i (suc d) k ≡ steps_to t other i (suc d) k
    settled-step d k l h later = go (t.set k) refl
      where
        go : (o : Option ℕ) → t.set k ≡ o → node_steps t one i (steps_to t one i d) k o ≡ node_steps t other i (steps_to t other i d) k o
        go None e = refl
        go (Some s) e = by_owner d k s l h e later (t.owner s) refl

    -- the steps are the same for each choice
    settled-steps : (d k : ℕ) → k < t.size → IsSettled t k → steps_to t one i d k ≡ steps_to t other i d k
    settled-steps zero k l h = refl
    settled-steps (suc d) k l h = settled-step d k l h (settled-steps d)

  -- what such a node gives for one choice it gives for each
  pub Settles-from_one : (choice : ℕ → ℕ) (i k : ℕ) (v : ℚ) → k < t.size → IsSettled t k → GiveAt t choice i k (Ok v) → Settles t i k v
  Settles-from_one choice i k v l h g other =
      (g.0 ∙ settled-value i choice other k l h, subst (All StepFits) (settled-steps i choice other t.size k l h) g.1)
