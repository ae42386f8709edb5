-- Every completion of a profile pays the same, since only nodes on the profile's way count.
use Rattle.std.proofs.Common.{ℕ, zero, suc, ◌<◌, ◌≡◌, ◌≢◌, ◌⊎◌, inl, inr, ⊎_elim, Option, Some, None, List, length, map, refl, sym, ap, ap₂, ◌∙◌, subst, arith}
use Rattle.std.proofs.lemmas.Bool.{cases_eq}
use Rattle.game_theory.specs.OwnSets.{own_sets}
use Rattle.rational.specs.Rational.{ℚ, ◌+ℚ◌, ◌*ℚ◌, zero_ℚ}
use Rattle.rational.proofs.Rules.{zero-*ℚ}
use Rattle.game_theory.specs.Profiles.{IsProfile}
use Rattle.game_theory.specs.Mixed.{sure}
use Rattle.game_theory.proofs.SureStrategyLemmas.{sure-other}
use Rattle.game_theory.specs.Trees.{Tree, IsTree}
use Rattle.game_theory.specs.Behaviour.{of_owner, at_set, action_probability, branch_probability, value_to, pure}
use Rattle.game_theory.specs.Recall.{own_history}
use Rattle.game_theory.proofs.ChildLemmas.{over_children-same}
use Rattle.reduced_strategies.specs.Choices.{choice_at, Agrees}
use Rattle.reduced_strategies.specs.StrategicForm.{AreStrategies, list_of, given_at, completed, IsCompletion}
use Rattle.reduced_strategies.specs.Laws.{CompletionsPayTheCell}
use Rattle.reduced_strategies.proofs.AgreementLemmas.{agrees_at_child}
use Rattle.reduced_strategies.proofs.StrategyProfileLemmas.{given_at-own, list_of-reduced, first_actions-complete}

-- products with equal first factors, which are 0, or with equal second ones too
product-same : (x y u v : ℚ) → x ≡ y → (x ≡ zero_ℚ) ⊎ (u ≡ v) → x *ℚ u ≡ y *ℚ v
product-same x y u v e (inl z) = ap (λ r. r *ℚ u) z ∙ zero-*ℚ u ∙ sym (zero-*ℚ v) ∙ ap (λ r. r *ℚ v) (sym z ∙ e)
product-same x y u v e (inr h) = ap₂ (λ r q. r *ℚ q) e h

-- the probability of an action at a set with an owner
probability-owned : (t : Tree) (choice : ℕ → ℕ) (s i a : ℕ) → t.owner s ≡ Some i → action_probability t (pure choice) s a ≡ sure (choice s) a
probability-owned t choice s i a o = ap (λ x. of_owner x (t.chance s a) (sure (choice s) a)) o

-- the probability of an action at a set of chance
probability-chance : (t : Tree) (choice : ℕ → ℕ) (s a : ℕ) → t.owner s ≡ None → action_probability t (pure choice) s a ≡ t.chance s a
probability-chance t choice s a o = ap (λ x. of_owner x (t.chance s a) (sure (choice s) a)) o

-- the probability of an action, where a player's choice is the same
probability-same : (t : Tree) (one other : ℕ → ℕ) (s a : ℕ) → ((i : ℕ) → t.owner s ≡ Some i → one s ≡ other s) → action_probability t (pure one) s a ≡ action_probability t (pure other) s a
probability-same t one other s a h = go (t.owner s) refl
  where
    go : (o : Option ℕ) → t.owner s ≡ o → action_probability t (pure one) s a ≡ action_probability t (pure other) s a
    go None o = probability-chance t one s a o ∙ sym (probability-chance t other s a o)
    go (Some i) o = probability-owned t one s i a o ∙ ap (λ x. sure x a) (h i o) ∙ sym (probability-owned t other s i a o)

-- a node is on the way of a profile: each player's own history agrees with that player's list
abbrev pub IsOnTheWay : Tree → List (List (List ℕ)) → List ℕ → ℕ → Type 0
IsOnTheWay t strategies profile k = (i : ℕ) → i < t.players → Agrees (choice_at (own_sets t i) (list_of strategies profile i)) (own_history t i k)

module _ (t : Tree) (strategies : List (List (List ℕ))) (profile : List ℕ) (w : IsTree t) (a : AreStrategies t strategies) (f : IsProfile (map length strategies) profile) where
  -- a profile gives an action to a player's set on its way
  given_on_the_way : (k s i : ℕ) → k < t.size → t.set k ≡ Some s → t.owner s ≡ Some i → IsOnTheWay t strategies profile k → 0 < given_at t strategies profile s
  given_on_the_way k s i l e o on =
      let within : s < t.sets = w.sets_within k s l e in
      let player : i < t.players = w.owners_within s i within o in
      subst (λ x. 0 < x) (sym (given_at-own t strategies profile s i o)) (((list_of-reduced t strategies profile i a f player).fixed_where_reached s within o).1 (k, l, e, on i player))

  -- which a completion takes
  taken_on_the_way : (choice : ℕ → ℕ) (k s i : ℕ) → IsCompletion t strategies profile choice → k < t.size → t.set k ≡ Some s → t.owner s ≡ Some i → IsOnTheWay t strategies profile k → suc (choice s) ≡ given_at t strategies profile s
  taken_on_the_way choice k s i c l e o on = (c s i (w.sets_within k s l e) o).1 (given_on_the_way k s i l e o on)

  -- a child by the action that is given, or by chance, is on the way
  child_on_the_way : (c s : ℕ) → 0 < c → c < t.size → t.set (t.parent c) ≡ Some s → IsOnTheWay t strategies profile (t.parent c) → ((i : ℕ) → t.owner s ≡ Some i → given_at t strategies profile s ≡ suc (t.branch c)) → IsOnTheWay t strategies profile c
  child_on_the_way c s p l e on h i m =
      (agrees_at_child t i c s (choice_at (own_sets t i) (list_of strategies profile i)) w p l e).1 (on i m, λ o. sym (given_at-own t strategies profile s i o) ∙ h i o)

  -- a child of a node on the way is on the way, or a completion does not lead to it
  never_or_on_the_way : (choice : ℕ → ℕ) (c s : ℕ) → IsCompletion t strategies profile choice → 0 < c → c < t.size → t.set (t.parent c) ≡ Some s → IsOnTheWay t strategies profile (t.parent c) → (branch_probability t (pure choice) c ≡ zero_ℚ) ⊎ IsOnTheWay t strategies profile c
  never_or_on_the_way choice c s h p l e on = go (t.owner s) refl (cases_eq (t.branch c) (choice s))
    where
      go : (o : Option ℕ) → t.owner s ≡ o → (t.branch c ≡ choice s) ⊎ (t.branch c ≢ choice s) → (branch_probability t (pure choice) c ≡ zero_ℚ) ⊎ IsOnTheWay t strategies profile c
      go None o same = inr (child_on_the_way c s p l e on (λ i q. cc (o, q)))
      go (Some i) o (inl same) =
          let after : t.parent c < c = w.after_parent c p l in
          inr (child_on_the_way c s p l e on (λ j q. sym (taken_on_the_way choice (t.parent c) s j h (omega arith) e q on) ∙ ap suc (sym same)))
      go (Some i) o (inr apart) = inl (ap (λ x. at_set t (pure choice) x (t.branch c)) e ∙ probability-owned t choice s i (t.branch c) o ∙ sure-other (choice s) (t.branch c) apart)

  -- two completions take the same
  taken-same : (one other : ℕ → ℕ) (k s i : ℕ) → IsCompletion t strategies profile one → IsCompletion t strategies profile other → k < t.size → t.set k ≡ Some s → t.owner s ≡ Some i → IsOnTheWay t strategies profile k → one s ≡ other s
  taken-same one other k s i g h l e o on =
      let first = taken_on_the_way one k s i g l e o on in
      let second = taken_on_the_way other k s i h l e o on in
      omega (arith, first, second)

  -- two completions lead to a child of a node on the way with the same probability
  probability_on_the_way : (one other : ℕ → ℕ) (c s : ℕ) → IsCompletion t strategies profile one → IsCompletion t strategies profile other → 0 < c → c < t.size → t.set (t.parent c) ≡ Some s → IsOnTheWay t strategies profile (t.parent c) → branch_probability t (pure one) c ≡ branch_probability t (pure other) c
  probability_on_the_way one other c s g h p l e on =
      let after : t.parent c < c = w.after_parent c p l in
      ap (λ x. at_set t (pure one) x (t.branch c)) e
      ∙ probability-same t one other s (t.branch c) (λ i o. taken-same one other (t.parent c) s i g h (omega arith) e o on)
      ∙ sym (ap (λ x. at_set t (pure other) x (t.branch c)) e)

  -- two completions give a node on the way the same value
  value_on_the_way : (one other : ℕ → ℕ) (j : ℕ) → IsCompletion t strategies profile one → IsCompletion t strategies profile other → (d k : ℕ) → k < t.size → IsOnTheWay t strategies profile k → value_to t (pure one) j d k ≡ value_to t (pure other) j d k
  value_on_the_way one other j g h zero k l on = refl
  value_on_the_way one other j g h (suc d) k l on = ap (λ x. t.pays k j +ℚ x) (over_children-same t k _ _ (λ c p m e. child c p m (subst (IsOnTheWay t strategies profile) (sym e) on) (λ way. value_on_the_way one other j g h d c m way)))
    where
      child : (c : ℕ) → 0 < c → c < t.size → IsOnTheWay t strategies profile (t.parent c) → (IsOnTheWay t strategies profile c → value_to t (pure one) j d c ≡ value_to t (pure other) j d c) → branch_probability t (pure one) c *ℚ value_to t (pure one) j d c ≡ branch_probability t (pure other) c *ℚ value_to t (pure other) j d c
      child c p m above same =
          let led = w.led_to c p m in
          let either = never_or_on_the_way one c led.0 g p m led.1 above in
          product-same _ _ _ _ (probability_on_the_way one other c led.0 g h p m led.1 above) (⊎_elim inl (λ way. inr (same way)) either)

-- every completion of a profile pays its cell
pub completions-pay : CompletionsPayTheCell
completions-pay t strategies profile choice i w a f c =
    value_on_the_way t strategies profile w a f choice (completed t strategies profile) i c (first_actions-complete t strategies profile w a f) t.size 0 w.some_node (λ j l. tt)
