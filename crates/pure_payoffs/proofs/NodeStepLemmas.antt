-- The steps and the value of a node, by those of its children.
use Rattle.std.proofs.Common.{ℕ, zero, suc, ◌+◌, ◌<◌, ◌≤◌, ◌≡◌, Option, Some, None, List, [], ◌∷◌, ◌++◌, refl, ap, ap₂, ◌∙◌, arith}
use Rattle.game_theory.proofs.NamedChildLemmas.{child-is_child, child-later}
use Rattle.game_theory.specs.Children.{child}
use Rattle.rational.specs.Rational.{ℚ, ◌+ℚ◌, ◌*ℚ◌}
use Rattle.rational.specs.Sum.{sum_to}
use Rattle.rational.proofs.SumLemmas.{sum_to-same, sum_to-single}
use Rattle.frac128.specs.Steps.{step_of, Step}
use Rattle.frac128.specs.declared.steps.Op.TheVariants.{Add}
use Rattle.game_theory.specs.Mixed.{sure}
use Rattle.game_theory.specs.Trees.{Tree, IsTree}
use Rattle.game_theory.specs.Behaviour.{of_owner, action_probability, value, pure}
use Rattle.game_theory.proofs.ValueLemmas.{value-by_actions, value-end}
use Rattle.pure_payoffs.specs.Steps.{branch_steps, chance_steps, node_steps, steps_after, steps_at, steps_to, value_after}

-- the sums of products of probabilities and values, where the values are the same
pub weighted-same : (n : ℕ) (chances v w : ℕ → ℚ) → ((a : ℕ) → a < n → v a ≡ w a) → sum_to n (λ a. chances a *ℚ v a) ≡ sum_to n (λ a. chances a *ℚ w a)
weighted-same n chances v w h = sum_to-same n (λ a. chances a *ℚ v a) (λ a. chances a *ℚ w a) (λ a l. ap (λ x. chances a *ℚ x) (h a l))

-- the steps at a node of chance, where the children's values and steps are the same
pub chance_steps-same : (n : ℕ) (chances v w : ℕ → ℚ) (f g : ℕ → List Step) → ((a : ℕ) → a < n → v a ≡ w a) → ((a : ℕ) → a < n → f a ≡ g a) → chance_steps n chances v f ≡ chance_steps n chances w g
chance_steps-same zero chances v w f g e h = refl
chance_steps-same (suc a) chances v w f g e h =
    let earlier : (b : ℕ) → b < a → v b ≡ w b = λ b l. e b (omega arith) in
    ap₂ (λ x y. x ++ y) (chance_steps-same a chances v w f g earlier (λ b l. h b (omega arith)))
    (ap₂ (λ s x. branch_steps (chances a) s x (f a)) (weighted-same a chances v w earlier) (e a (omega arith))
    ∙ ap (branch_steps (chances a) (sum_to a (λ b. chances b *ℚ w b)) (w a)) (h a (omega arith)))

module _ (t : Tree) (choice : ℕ → ℕ) (i : ℕ) (w : IsTree t) (chosen : (s j : ℕ) → s < t.sets → t.owner s ≡ Some j → choice s < t.actions s) where
  -- the steps at a node, where those of later nodes are the same
  node_steps-same : (f g : ℕ → List Step) (k : ℕ) → k < t.size → ((c : ℕ) → k < c → c < t.size → f c ≡ g c) → node_steps t choice i f k (t.set k) ≡ node_steps t choice i g k (t.set k)
  node_steps-same f g k l h = go (t.set k) refl
    where
      owned : (s : ℕ) (o : Option ℕ) → t.set k ≡ Some s → t.owner s ≡ o → steps_after t choice i f k s o ≡ steps_after t choice i g k s o
      owned s None e p =
          chance_steps-same (t.actions s) (t.chance s) _ _ (λ a. f (child t k a)) (λ a. g (child t k a)) (λ a m. refl) (λ a m. let c = child-later t k s a w l e m in h (child t k a) c.0 c.1)
      owned s (Some j) e p = let c = child-later t k s (choice s) w l e (chosen s j (w.sets_within k s l e) p) in h (child t k (choice s)) c.0 c.1

      go : (o : Option ℕ) → t.set k ≡ o → node_steps t choice i f k o ≡ node_steps t choice i g k o
      go None e = refl
      go (Some s) e = ap (λ x. x ++ step_of Add (t.pays k i) (value_after t choice i k s (t.owner s)) ∷ []) (owned s (t.owner s) e refl)

  -- where no node lies deeper, one more edge adds no step
  steps_to-enough : (d k : ℕ) → k < t.size → t.size ≤ d + k → steps_to t choice i d k ≡ steps_to t choice i (suc d) k
  steps_to-enough zero k l h = absurd (omega arith)
  steps_to-enough (suc d) k l h = node_steps-same (steps_to t choice i d) (steps_to t choice i (suc d)) k l (λ c after m. steps_to-enough d c m (omega arith))

  -- the steps of a node, by those of its children
  steps_at-recur : (k : ℕ) → k < t.size → steps_at t choice i k ≡ node_steps t choice i (steps_at t choice i) k (t.set k)
  steps_at-recur k l = steps_to-enough t.size k l (omega arith)

  -- an end has no step
  pub steps_at-end : (k : ℕ) → k < t.size → t.set k ≡ None → steps_at t choice i k ≡ []
  steps_at-end k l e = steps_at-recur k l ∙ ap (node_steps t choice i (steps_at t choice i) k) e

  -- at any other node the last step adds what comes after it
  pub steps_at-inner : (k s : ℕ) → k < t.size → t.set k ≡ Some s → steps_at t choice i k ≡ steps_after t choice i (steps_at t choice i) k s (t.owner s) ++ step_of Add (t.pays k i) (value_after t choice i k s (t.owner s)) ∷ []
  steps_at-inner k s l e = steps_at-recur k l ∙ ap (node_steps t choice i (steps_at t choice i) k) e

  -- the weighted values of a node's children sum to the value of what comes after it
  weighted-following : (k s : ℕ) → s < t.sets → sum_to (t.actions s) (λ a. action_probability t (pure choice) s a *ℚ value t (pure choice) i (child t k a)) ≡ value_after t choice i k s (t.owner s)
  weighted-following k s l = go (t.owner s) refl
    where
      go : (o : Option ℕ) → t.owner s ≡ o → sum_to (t.actions s) (λ a. of_owner o (t.chance s a) (sure (choice s) a) *ℚ value t (pure choice) i (child t k a)) ≡ value_after t choice i k s o
      go None p = refl
      go (Some j) p = sum_to-single (t.actions s) (choice s) (λ a. value t (pure choice) i (child t k a)) (chosen s j l p)

  -- the value of such a node is what its outcome pays and the value of what comes after it
  pub value-inner : (k s : ℕ) → k < t.size → t.set k ≡ Some s → value t (pure choice) i k ≡ t.pays k i +ℚ value_after t choice i k s (t.owner s)
  value-inner k s l e =
      value-by_actions t (pure choice) i k s (child t k) w l e (λ a m. child-is_child t k s a w l e m)
      ∙ ap (λ x. t.pays k i +ℚ x) (weighted-following k s (w.sets_within k s l e))

  -- the value of an end is what its outcome pays
  pub value-last : (k : ℕ) → k < t.size → t.set k ≡ None → value t (pure choice) i k ≡ t.pays k i
  value-last k l e = value-end t (pure choice) i k w l e
