-- Behaviours that are the same at the players' sets have the same entries, pay the same in the same
-- steps, and leave the same best choices; so where one is an equilibrium, so is the other.
use Rattle.std.proofs.Common.{ℕ, zero, suc, ◌<◌, ◌≡◌, Option, None, Some, List, [], ◌∷◌, ◌++◌, Result, refl, sym, ap, ap₂, ◌∙◌, subst, subst₂, arith}
use Rattle.std.specs.Prelude.{if◌then◌else◌}
use Rattle.std.specs.List.{range_with_len}
use Rattle.answers.specs.Answers.{refused_by}
use Rattle.rational.specs.Rational.{ℚ, ◌*ℚ◌, ◌≤ℚ◌, zero_ℚ, one_ℚ}
use Rattle.rational.specs.Sum.{sum_to}
use Rattle.rational.proofs.SumLemmas.{sum_to-same}
use Rattle.game_theory.specs.Mixed.{sure}
use Rattle.game_theory.specs.Trees.{Tree, IsTree}
use Rattle.game_theory.specs.Behaviour.{Behaviour, IsValid, action_probability, branch_probability, is_own, of_owner, reply, value}
use Rattle.game_theory.specs.Children.{child}
use Rattle.game_theory.specs.OwnSets.{player_sets}
use Rattle.game_theory.specs.TreeEntries.{tree_entries}
use Rattle.game_theory.specs.TreeEquilibrium.{IsEquilibrium}
use Rattle.game_theory.proofs.NamedChildLemmas.{child-later}
use Rattle.game_theory.proofs.PlayerSetLemmas.{player_sets-tell}
use Rattle.game_theory.proofs.PathLemmas.{along_paths}
use Rattle.game_theory.proofs.ChildLemmas.{where_true}
use Rattle.game_theory.proofs.SubtreeLemmas.{value-agree}
use Rattle.best_replies.specs.Reaching.{own_as_one, reach, weight}
use Rattle.best_replies.specs.Replies.{follows, reply_value, AreBestChoices}
use Rattle.best_replies.proofs.FirstGreatestLemmas.{IsFirstGreatest-same}
use Rattle.best_replies.proofs.ReachLemmas.{reach-step}
use Rattle.best_replies.proofs.WeightLemmas.{branch-at, step-to}
use Rattle.frac128.specs.FirstUnfit.{all_fit}
use Rattle.frac128.specs.Steps.{step_of, Step}
use Rattle.frac128.specs.declared.steps.Op.TheVariants.{Add}
use Rattle.pure_payoffs.specs.Steps.{branch_steps, chance_steps}
use Rattle.behaviour_profile.proofs.BehaviourEntryLemmas.{entries_at-same}
use Rattle.verdicts.specs.BehaviourPayoffs.{behaviour_payoffs_fit}
use Rattle.verdicts.specs.TreeSteps.{behaviour_node_steps, behaviour_steps_at, behaviour_steps_to}
use Rattle.pure_payoffs.specs.declared.stop.PayoffStop.{PayoffStop}
use Rattle.pure_payoffs.specs.declared.stop.PayoffStop.TheVariants as stops

-- sums of products
products-alike : (n : ℕ) (p q v u : ℕ → ℚ) → ((a : ℕ) → a < n → p a ≡ q a) → ((a : ℕ) → a < n → v a ≡ u a) → sum_to n (λ a. p a *ℚ v a) ≡ sum_to n (λ a. q a *ℚ u a)
products-alike n p q v u d e = sum_to-same n _ _ (λ a l. ap₂ (λ x y. x *ℚ y) (d a l) (e a l))

-- the steps of such sums
chances-alike : (n : ℕ) (p q v u : ℕ → ℚ) (f g : ℕ → List Step) → ((a : ℕ) → a < n → p a ≡ q a) → ((a : ℕ) → a < n → v a ≡ u a) → ((a : ℕ) → a < n → f a ≡ g a) → chance_steps n p v f ≡ chance_steps n q u g
chances-alike zero p q v u f g d e h = refl
chances-alike (suc n) p q v u f g d e h =
    let before : (a : ℕ) → a < n → p a ≡ q a = λ a l. d a (omega arith) in
    let values : (a : ℕ) → a < n → v a ≡ u a = λ a l. e a (omega arith) in
    let chance = d n (omega arith) in
    let worth = e n (omega arith) in
    let steps = h n (omega arith) in
    let sums = products-alike n p q v u before values in
    ap₂ (λ x y. x ++ y) (chances-alike n p q v u f g before values (λ a l. h a (omega arith))) (λ j. branch_steps (chance j) (sums j) (worth j) (steps j))

-- ---- behaviours
-- two behaviours are the same at the players' sets
abbrev pub AreAlike : Tree → Behaviour → Behaviour → Type 0
AreAlike t b other = (s i a : ℕ) → s < t.sets → t.owner s ≡ Some i → a < t.actions s → b s a ≡ other s a

module _ (t : Tree) (b other : Behaviour) (w : IsTree t) (alike : AreAlike t b other) where
  -- nodes have the same values
  pub value-alike : (i k : ℕ) → k < t.size → value t b i k ≡ value t other i k
  value-alike i k l = value-agree t b other i k w l (λ c s j a inside below e o m. alike s j a (w.sets_within c s below e) o m)

  -- actions have the same probabilities
  pub probability-alike : (s a : ℕ) → s < t.sets → a < t.actions s → action_probability t b s a ≡ action_probability t other s a
  probability-alike s a l m = go (t.owner s) refl
    where
      go : (o : Option ℕ) → t.owner s ≡ o → of_owner o (t.chance s a) (b s a) ≡ of_owner o (t.chance s a) (other s a)
      go None e = refl
      go (Some i) e = alike s i a l e m

  pub branch-alike : (c : ℕ) → 0 < c → c < t.size → branch_probability t b c ≡ branch_probability t other c
  branch-alike c p l =
      let led = w.led_to c p l in
      branch-at t b c led.0 led.1 ∙ probability-alike led.0 (t.branch c) (step-to t c led.0 w p l led.1).within led.2 ∙ sym (branch-at t other c led.0 led.1)

  -- nodes are reached alike
  reach-alike : (k : ℕ) → k < t.size → reach t b k ≡ reach t other k
  reach-alike =
      along_paths t (λ k. reach t b k ≡ reach t other k) w refl (λ c p l before.
      reach-step t b c w p l ∙ ap₂ (λ x y. x *ℚ y) before (branch-alike c p l) ∙ sym (reach-step t other c w p l))

  -- players have the same entries
  pub tree_entries-alike : tree_entries t b ≡ tree_entries t other
  tree_entries-alike =
      entries_at-same t b other (player_sets t) (λ s a among m. let own = player_sets-tell t s among in alike s own.0 a own.1 own.2 m)

  module _ (i : ℕ) where
    -- what a node pays takes the same steps, where those of later nodes are the same
    behaviour_node-alike : (f g : ℕ → List Step) (k : ℕ) → k < t.size → ((c : ℕ) → c < t.size → f c ≡ g c) → behaviour_node_steps t b i f k (t.set k) ≡ behaviour_node_steps t other i g k (t.set k)
    behaviour_node-alike f g k l h = go (t.set k) refl
      where
        go : (o : Option ℕ) → t.set k ≡ o → behaviour_node_steps t b i f k o ≡ behaviour_node_steps t other i g k o
        go None e = refl
        go (Some s) e =
            let chance : (a : ℕ) → a < t.actions s → action_probability t b s a ≡ action_probability t other s a = λ a m. probability-alike s a (w.sets_within k s l e) m in
            let worth : (a : ℕ) → a < t.actions s → value t b i (child t k a) ≡ value t other i (child t k a) = λ a m. value-alike i (child t k a) (child-later t k s a w l e m).1 in
            ap₂ (λ x y. x ++ step_of Add (t.pays k i) y ∷ [])
            (chances-alike (t.actions s) _ _ _ _ (λ a. f (child t k a)) (λ a. g (child t k a)) chance worth (λ a m. h (child t k a) (child-later t k s a w l e m).1))
            (products-alike (t.actions s) _ _ _ _ chance worth)

    behaviour_below-alike : (d k : ℕ) → k < t.size → behaviour_steps_to t b i d k ≡ behaviour_steps_to t other i d k
    behaviour_below-alike zero k l = refl
    behaviour_below-alike (suc d) k l = behaviour_node-alike (behaviour_steps_to t b i d) (behaviour_steps_to t other i d) k l (λ c m. behaviour_below-alike d c m)

    -- what a node pays takes the same steps
    pub behaviour_steps-alike : (k : ℕ) → k < t.size → behaviour_steps_at t b i k ≡ behaviour_steps_at t other i k
    behaviour_steps-alike k l = behaviour_below-alike t.size k l

  -- what all players are paid has the same answer
  pub behaviour_payoffs-alike : (answer : Result (Unit {0}) PayoffStop) → behaviour_payoffs_fit t b answer → behaviour_payoffs_fit t other answer
  behaviour_payoffs-alike answer h =
      let same : (λ i. behaviour_steps_at t b i 0) ≡ (λ i. behaviour_steps_at t other i 0) = λ j i. behaviour_steps-alike i 0 w.some_node j in
      subst (λ steps. refused_by (λ stop. stops.Range stop.0 stop.1) (all_fit steps (range_with_len 0 t.players)) answer) same h

-- a player's reply is the same against both
replies-alike : (t : Tree) (b other : Behaviour) → AreAlike t b other → (i : ℕ) (choice : ℕ → ℕ) → AreAlike t (reply t b i choice) (reply t other i choice)
replies-alike t b other alike i choice s j a l o m = ap (λ x. if is_own t i s then sure (choice s) a else x) (alike s j a l o m)

-- nodes have the same weights
pub weight-alike : (t : Tree) (b other : Behaviour) → IsTree t → AreAlike t b other → (i k : ℕ) → k < t.size → weight t b i k ≡ weight t other i k
weight-alike t b other w alike i k l =
    reach-alike t (own_as_one t b i) (own_as_one t other i) w (λ s j a m o n. ap (λ x. if is_own t i s then one_ℚ else x) (alike s j a m o n)) k l

-- and the same reply values
pub reply_value-alike : (t : Tree) (b other : Behaviour) → IsTree t → AreAlike t b other → (i : ℕ) (choice : ℕ → ℕ) (k : ℕ) → k < t.size → reply_value t b i choice k ≡ reply_value t other i choice k
reply_value-alike t b other w alike i choice k l =
    ap₂ (λ x y. x *ℚ y) (weight-alike t b other w alike i k l)
    (value-alike t (reply t b i choice) (reply t other i choice) w (replies-alike t b other alike i choice) i k l)

-- the best choices are the same
pub best_choices-alike : (t : Tree) (b other : Behaviour) → IsTree t → AreAlike t b other → (i : ℕ) (choice : ℕ → ℕ) → AreBestChoices t b i choice → AreBestChoices t other i choice
best_choices-alike t b other w alike i choice best s l o =
    IsFirstGreatest-same (t.actions s) _ _ (choice s) (λ a m. sum_to-same t.size _ _ (λ c n. ap (where_true (follows t s a c)) (reply_value-alike t b other w alike i choice c n))) (best s l o)

-- where one is valid, so is the other
valid-alike : (t : Tree) (b other : Behaviour) → AreAlike t b other → IsValid t b → IsValid t other
valid-alike t b other alike h s i l o = record {
  not_negative = λ a m. subst (λ x. zero_ℚ ≤ℚ x) (alike s i a l o m) ((h s i l o).not_negative a m);
  sum_is_one = sym (sum_to-same (t.actions s) (b s) (other s) (λ a m. alike s i a l o m)) ∙ (h s i l o).sum_is_one;
}

-- and where one is an equilibrium, so is the other
pub equilibrium-alike : (t : Tree) (b other : Behaviour) → IsTree t → AreAlike t b other → IsEquilibrium t b → IsEquilibrium t other
equilibrium-alike t b other w alike h = record {
  valid = valid-alike t b other alike h.valid;
  no_better_reply = λ i choice l c. subst₂ (λ x y. x ≤ℚ y)
      (value-alike t (reply t b i choice) (reply t other i choice) w (replies-alike t b other alike i choice) i 0 w.some_node)
      (value-alike t b other w alike i 0 w.some_node) (h.no_better_reply i choice l c);
}
