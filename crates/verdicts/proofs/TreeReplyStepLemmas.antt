-- What a node is worth for a player's reply: the steps, and what they give.
use Rattle.std.proofs.Common.{ℕ, ◌<◌, ◌≡◌, ◌≢◌, inl, inr, Option, Some, None, List, [], ◌∷◌, ◌++◌, All, Result, refl, sym, ap, ◌∙◌, subst}
use Rattle.std.specs.Prelude.{IfOk, IfErr, OnOk, OnErr, if◌then◌else◌}
use Rattle.rational.specs.Rational.{ℚ, ◌+ℚ◌, ◌*ℚ◌, zero_ℚ}
use Rattle.rational.proofs.RationalRing.{+ℚ-zero}
use Rattle.rational.proofs.Rules.{zero-+ℚ}
use Rattle.frac128.specs.Steps.{AddFits, MulFits, step_of, Step, StepFits, IsFirstUnfit, StepsGive}
use Rattle.frac128.specs.declared.steps.Op.TheVariants.{Add, Mul}
use Rattle.frac128.specs.declared.steps.Unfit.{Unfit}
use Rattle.game_theory.specs.Children.{child}
use Rattle.game_theory.specs.Trees.{Tree, IsTree}
use Rattle.game_theory.specs.Behaviour.{Behaviour, is_own}
use Rattle.game_theory.proofs.NamedChildLemmas.{child-is_child, child-later}
use Rattle.best_replies.specs.Reaching.{weight}
use Rattle.best_replies.specs.Replies.{reply_value}
use Rattle.best_replies.proofs.ReplyValueLemmas.{reply_values-recur}
use Rattle.best_replies.proofs.WeightLemmas.{own_or_not, if_own, if_other}
use Rattle.frac128.proofs.StepRunLemmas.{first_unfit-more, first_unfit-following, first_unfit-here, one-fits, added-gives, following-gives}
use Rattle.verdicts.specs.TreeReplies.{after_steps_at, after_sum_at}
use Rattle.verdicts.specs.TreeSteps.{child_value, children_steps, children_sum, after_steps, after_sum, own_steps, reply_steps_to, reply_steps}
use Rattle.verdicts.proofs.TreeDepthLemmas.{told-recurs}
use Rattle.frac128.proofs.SumStepLemmas.{sum_steps-same}

module _ (t : Tree) (b : Behaviour) (i : ℕ) (choice : ℕ → ℕ) (w : IsTree t) where
  -- the steps at a node, where those of later nodes are the same
  abbrev told : (ℕ → List Step) → ℕ → List Step
  told f k = after_steps t b i choice f k (t.set k) ++ own_steps t b i k (after_sum t b i choice k (t.set k))

  told-same : (f g : ℕ → List Step) (k : ℕ) → k < t.size → ((c : ℕ) → k < c → c < t.size → f c ≡ g c) → told f k ≡ told g k
  told-same f g k l h = ap (λ x. x ++ own_steps t b i k (after_sum t b i choice k (t.set k))) (go (t.set k) refl)
    where
      go : (o : Option ℕ) → t.set k ≡ o → after_steps t b i choice f k o ≡ after_steps t b i choice g k o
      go None e = refl
      go (Some s) e =
          ap (λ x. if is_own t i s then step_of Add zero_ℚ (child_value t b i choice k (choice s)) ∷ [] else x)
          (sum_steps-same (t.actions s) (child_value t b i choice k) (child_value t b i choice k) (λ a. f (child t k a)) (λ a. g (child t k a)) (λ a m. refl) (λ a m. let c = child-later t k s a w l e m in h (child t k a) c.0 c.1))

  -- the steps of a node, by those after it
  steps-at : (k : ℕ) → k < t.size → reply_steps t b i choice k ≡ after_steps_at t b i choice k ++ own_steps t b i k (after_sum_at t b i choice k)
  steps-at k l = told-recurs t.size told (reply_steps_to t b i choice) (λ d c. refl) told-same k l

  -- what stands after an own node
  pub following-own : (k s : ℕ) → t.set k ≡ Some s → t.owner s ≡ Some i
      → (after_steps_at t b i choice k ≡ step_of Add zero_ℚ (child_value t b i choice k (choice s)) ∷ []) × (after_sum_at t b i choice k ≡ child_value t b i choice k (choice s))
  following-own k s e o = (
    ap (after_steps t b i choice (reply_steps t b i choice) k) e ∙ if_own t i s _ _ o,
    ap (after_sum t b i choice k) e ∙ if_own t i s _ _ o,
  )

  -- and after any other node with a set
  pub following-other : (k s : ℕ) → t.set k ≡ Some s → t.owner s ≢ Some i
      → (after_steps_at t b i choice k ≡ children_steps t b i choice (reply_steps t b i choice) k s) × (after_sum_at t b i choice k ≡ children_sum t b i choice k s)
  following-other k s e o = (
    ap (after_steps t b i choice (reply_steps t b i choice) k) e ∙ if_other t i s _ _ o,
    ap (after_sum t b i choice k) e ∙ if_other t i s _ _ o,
  )

  -- the sum at an own node
  pub own-gives : (k s : ℕ) (z x : ℚ) (r : Result ℚ Unfit) → t.set k ≡ Some s → t.owner s ≡ Some i → z ≡ zero_ℚ → x ≡ child_value t b i choice k (choice s)
      → IfOk r (λ f. f ≡ z +ℚ x) → OnOk r (AddFits z x) → IfErr r (λ u. u ≡ step_of Add z x) → OnErr r (AddFits z x → ⊥) → StepsGive (after_steps_at t b i choice k) (after_sum_at t b i choice k) r
  own-gives k s z x r e o zero_is is sum fits step refused =
      let parts = following-own k s e o in
      rw (parts.0, parts.1, ← is, ← zero_is) (subst (λ v. StepsGive (step_of Add z x ∷ []) v r) (ap (λ y. y +ℚ x) zero_is ∙ zero-+ℚ x) (added-gives z x r sum fits step refused))

  -- the sum at any other node with a set
  pub other-gives : (k s : ℕ) (r : Result ℚ Unfit) → t.set k ≡ Some s → t.owner s ≢ Some i → StepsGive (children_steps t b i choice (reply_steps t b i choice) k s) (children_sum t b i choice k s) r → StepsGive (after_steps_at t b i choice k) (after_sum_at t b i choice k) r
  other-gives k s r e o h = let parts = following-other k s e o in rw (parts.0, parts.1) h

  module _ (chosen : (s : ℕ) → s < t.sets → t.owner s ≡ Some i → choice s < t.actions s) (k : ℕ) (l : k < t.size) where
    -- a node's reply value, by what stands after it
    value-at : reply_value t b i choice k ≡ (weight t b i k *ℚ t.pays k i) +ℚ after_sum_at t b i choice k
    value-at = go (t.set k) refl
      where
        go : (o : Option ℕ) → t.set k ≡ o → reply_value t b i choice k ≡ (weight t b i k *ℚ t.pays k i) +ℚ after_sum t b i choice k o
        go None e = reply_values-recur.end t b i choice k w l e ∙ sym (+ℚ-zero _)
        go (Some s) e = elim (own_or_not t i s) [
          | inl o ↦ let below = chosen s (w.sets_within k s l e) o in
              reply_values-recur.own t b i choice k s (child t k (choice s)) w l e o below (child-is_child t k s (choice s) w l e below)
              ∙ ap (λ x. (weight t b i k *ℚ t.pays k i) +ℚ x) (sym (if_own t i s _ _ o))
          | inr apart ↦ reply_values-recur.other t b i choice k s (child t k) w l e apart (λ a m. child-is_child t k s a w l e m)
              ∙ ap (λ x. (weight t b i k *ℚ t.pays k i) +ℚ x) (sym (if_other t i s _ _ apart))
        ]

    -- the first step after a node that does not fit is the node's
    pub reply-after_refused : (u : Step) → IsFirstUnfit (after_steps_at t b i choice k) u → IsFirstUnfit (reply_steps t b i choice k) u
    reply-after_refused u h = subst (λ steps. IsFirstUnfit steps u) (sym (steps-at k l)) (first_unfit-more (after_steps_at t b i choice k) _ u h)

    module _ (wt p : ℚ) (weight_is : wt ≡ weight t b i k) (pays_is : p ≡ t.pays k i) (fit : All StepFits (after_steps_at t b i choice k)) where
      -- a product that does not fit is the node's first such step
      pub reply-product_refused : (u : Step) → u ≡ step_of Mul wt p → (MulFits wt p → ⊥) → IsFirstUnfit (reply_steps t b i choice k) u
      reply-product_refused u step refused =
          let here : IsFirstUnfit (own_steps t b i k (after_sum_at t b i choice k)) u = rw (← weight_is, ← pays_is, step) (first_unfit-here (step_of Mul wt p) _ refused) in
          subst (λ steps. IsFirstUnfit steps u) (sym (steps-at k l)) (first_unfit-following (after_steps_at t b i choice k) _ u fit here)

      -- what the last addition gives is what the node gives
      pub reply-added : (x y : ℚ) (r : Result ℚ Unfit) → x ≡ after_sum_at t b i choice k → y ≡ wt *ℚ p → MulFits wt p
          → IfOk r (λ f. f ≡ y +ℚ x) → OnOk r (AddFits y x) → IfErr r (λ u. u ≡ step_of Add y x) → OnErr r (AddFits y x → ⊥) → StepsGive (reply_steps t b i choice k) (reply_value t b i choice k) r
      reply-added x y r is product fits sum sum_fits step refused =
          let last : StepsGive (step_of Add y x ∷ []) (y +ℚ x) r = added-gives y x r sum sum_fits step refused in
          let both = following-gives (step_of Mul wt p ∷ []) (step_of Add y x ∷ []) (y +ℚ x) r (one-fits (step_of Mul wt p) fits) last in
          let whole = following-gives (after_steps_at t b i choice k) (step_of Mul wt p ∷ step_of Add y x ∷ []) (y +ℚ x) r fit both in
          rw (steps-at k l, value-at, ← is, ← weight_is, ← pays_is, ← product) whole
