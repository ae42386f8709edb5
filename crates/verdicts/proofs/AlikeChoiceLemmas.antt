-- Behaviours and choices that are the same at the players' sets have the same steps.
use Rattle.std.proofs.Common.{ℕ, zero, suc, ◌<◌, ◌≡◌, inl, inr, Option, None, Some, List, [], ◌∷◌, ◌++◌, length, get_or, refl, sym, ap, ap₂, ◌∙◌, arith}
use Rattle.std.specs.Prelude.{◌&&◌, if◌then◌else◌, nat_lt, reverse}
use Rattle.std.specs.List.{flat_map}
use Rattle.std.proofs.lemmas.Option.{slice_get-get_or}
use Rattle.lists.proofs.ElementLemmas.{made-same}
use Rattle.rational.specs.Rational.{◌*ℚ◌, zero_ℚ}
use Rattle.rational.proofs.SumLemmas.{sum_to-same}
use Rattle.frac128.specs.Steps.{step_of, Step}
use Rattle.frac128.specs.declared.steps.Op.TheVariants.{Add, Mul}
use Rattle.game_theory.specs.Trees.{Tree, IsTree}
use Rattle.game_theory.specs.Behaviour.{Behaviour}
use Rattle.game_theory.specs.Children.{child}
use Rattle.game_theory.specs.OwnSets.{own_sets}
use Rattle.game_theory.proofs.IndexLemmas.{numbers_with-tell}
use Rattle.game_theory.proofs.NamedChildLemmas.{child-later}
use Rattle.game_theory.proofs.OwnSetLemmas.{IsAmong}
use Rattle.best_replies.specs.Replies.{reply_value}
use Rattle.best_replies.proofs.ReplyValueLemmas.{reply_value-agree}
use Rattle.best_replies.proofs.WeightLemmas.{own_or_not, if_own, if_other}
use Rattle.verdicts.specs.TreeSteps.{child_value, after_steps, after_sum, reply_steps_to, reply_steps, members, member_child, action_steps, decision_steps, tree_player_steps, has_factor, weight_step, tree_weight_steps}
use Rattle.verdicts.proofs.AlikeBehaviourLemmas.{AreAlike, branch-alike, behaviour_steps-alike, reply_value-alike, weight-alike}
use Rattle.verdicts.proofs.TreeOwnSetLemmas.{turned}
use Rattle.frac128.proofs.SumStepLemmas.{sum_steps-same}

-- ---- lists of steps
-- parts of a list from its last element on
turned-alike : (xs : List ℕ) (f g : ℕ → List Step) → ((x : ℕ) → IsAmong xs x → f x ≡ g x) → flat_map f (reverse xs) ≡ flat_map g (reverse xs)
turned-alike [] f g h = refl
turned-alike (x ∷ xs) f g h = turned f x xs ∙ ap₂ (λ y z. y ++ z) (turned-alike xs f g (λ y among. h y (inr among))) (h x (inl refl)) ∙ sym (turned g x xs)

-- ---- the nodes of a set
members-are : (t : Tree) (s j : ℕ) → j < length (members t s) → (get_or (members t s) j 0 < t.size) × (t.set (get_or (members t s) j 0) ≡ Some s)
members-are t s j l = let found = numbers_with-tell t.set s t.size j _ (slice_get-get_or (members t s) j 0 l) in (found.0, found.1)

-- ---- behaviours and choices
module _ (t : Tree) (b behaviour : Behaviour) (i : ℕ) (choice other : ℕ → ℕ) (w : IsTree t) (alike : AreAlike t b behaviour) (chosen : (s : ℕ) → s < t.sets → t.owner s ≡ Some i → choice s < t.actions s) (same : (s : ℕ) → s < t.sets → t.owner s ≡ Some i → choice s ≡ other s) where
  -- the steps of the weights
  weights-alike : tree_weight_steps t b i ≡ tree_weight_steps t behaviour i
  weights-alike = made-same (weight_step t b i) (weight_step t behaviour i) 0 t.size (λ c h l. step-alike c (omega (arith, l)))
    where
      step-alike : (c : ℕ) → c < t.size → weight_step t b i c ≡ weight_step t behaviour i c
      step-alike zero l = refl
      step-alike (suc c) l =
          let after = w.after_parent (suc c) (omega arith) l in
          ap₂ (λ x y. if nat_lt 0 (suc c) && has_factor t i (t.set (t.parent (suc c))) then step_of Mul x y ∷ [] else [])
          (weight-alike t b behaviour w alike i (t.parent (suc c)) (omega (arith, after, l))) (branch-alike t b behaviour w alike (suc c) (omega arith) l)

  -- nodes are worth the same
  pub values-alike : (k : ℕ) → k < t.size → reply_value t b i choice k ≡ reply_value t behaviour i other k
  values-alike k l = reply_value-agree t b i choice other k w l (λ c s inside below e o. same s (w.sets_within c s below e) o) ∙ reply_value-alike t b behaviour w alike i other k l

  module _ (k s : ℕ) (l : k < t.size) (e : t.set k ≡ Some s) where
    child-alike : (a : ℕ) → a < t.actions s → child_value t b i choice k a ≡ child_value t behaviour i other k a
    child-alike a m = values-alike (child t k a) (child-later t k s a w l e m).1

    chosen-alike : t.owner s ≡ Some i → child_value t b i choice k (choice s) ≡ child_value t behaviour i other k (other s)
    chosen-alike o = let n = w.sets_within k s l e in child-alike (choice s) (chosen s n o) ∙ ap (child_value t behaviour i other k) (same s n o)

  -- what stands after a node
  following-alike : (f g : ℕ → List Step) (k : ℕ) → k < t.size → ((c : ℕ) → c < t.size → f c ≡ g c) → after_steps t b i choice f k (t.set k) ≡ after_steps t behaviour i other g k (t.set k)
  following-alike f g k l h = go (t.set k) refl
    where
      go : (o : Option ℕ) → t.set k ≡ o → after_steps t b i choice f k o ≡ after_steps t behaviour i other g k o
      go None e = refl
      go (Some s) e = elim (own_or_not t i s) [
        | inl o ↦ if_own t i s _ _ o ∙ ap (λ x. step_of Add zero_ℚ x ∷ []) (chosen-alike k s l e o) ∙ sym (if_own t i s _ _ o)
        | inr apart ↦ if_other t i s _ _ apart ∙ sum_steps-same (t.actions s) (child_value t b i choice k) (child_value t behaviour i other k) (λ a. f (child t k a)) (λ a. g (child t k a)) (λ a m. child-alike k s l e a m) (λ a m. h (child t k a) (child-later t k s a w l e m).1) ∙ sym (if_other t i s _ _ apart)
      ]

  sum-alike : (k : ℕ) → k < t.size → after_sum t b i choice k (t.set k) ≡ after_sum t behaviour i other k (t.set k)
  sum-alike k l = go (t.set k) refl
    where
      go : (o : Option ℕ) → t.set k ≡ o → after_sum t b i choice k o ≡ after_sum t behaviour i other k o
      go None e = refl
      go (Some s) e = elim (own_or_not t i s) [
        | inl o ↦ if_own t i s _ _ o ∙ chosen-alike k s l e o ∙ sym (if_own t i s _ _ o)
        | inr apart ↦ if_other t i s _ _ apart ∙ sum_to-same (t.actions s) _ _ (λ a m. child-alike k s l e a m) ∙ sym (if_other t i s _ _ apart)
      ]

  -- the steps of a node
  reply-alike : (d k : ℕ) → k < t.size → reply_steps_to t b i choice d k ≡ reply_steps_to t behaviour i other d k
  reply-alike zero k l = refl
  reply-alike (suc d) k l =
      ap₂ (λ x y. x ++ y) (following-alike (reply_steps_to t b i choice d) (reply_steps_to t behaviour i other d) k l (λ c m. reply-alike d c m))
      (ap₂ (λ x y. step_of Mul x (t.pays k i) ∷ step_of Add (x *ℚ t.pays k i) y ∷ []) (weight-alike t b behaviour w alike i k l) (sum-alike k l))

  -- the steps of a decision
  action-alike : (s a : ℕ) → a < t.actions s → action_steps t b i choice s a ≡ action_steps t behaviour i other s a
  action-alike s a m =
      sum_steps-same (length (members t s)) (λ j. reply_value t b i choice (member_child t s a j)) (λ j. reply_value t behaviour i other (member_child t s a j)) (λ j. reply_steps t b i choice (member_child t s a j)) (λ j. reply_steps t behaviour i other (member_child t s a j))
      (λ j l. values-alike (member_child t s a j) (inside j l)) (λ j l. reply-alike t.size (member_child t s a j) (inside j l))
    where
      inside : (j : ℕ) → j < length (members t s) → member_child t s a j < t.size
      inside j l = let is = members-are t s j l in (child-later t (get_or (members t s) j 0) s a w is.0 is.1 m).1

  -- the steps of the player
  pub steps-alike : tree_player_steps t b i choice ≡ tree_player_steps t behaviour i other
  steps-alike =
      let now = behaviour_steps-alike t b behaviour w alike i 0 w.some_node in
      let decided = turned-alike (own_sets t i) (decision_steps t b i choice) (decision_steps t behaviour i other) (λ s among. made-same (action_steps t b i choice s) (action_steps t behaviour i other s) 0 (t.actions s) (λ a h m. action-alike s a (omega (arith, m)))) in
      let replies = reply-alike t.size 0 w.some_node in
      λ j. now j ++ (weights-alike j ++ decided j ++ replies j)
