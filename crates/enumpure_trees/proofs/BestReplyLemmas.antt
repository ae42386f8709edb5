-- Best replies in the games at a node are those that make a choice an equilibrium there.
use Rattle.std.proofs.Common.{ℕ, zero, suc, ◌<◌, ◌≤◌, ◌≡◌, ◌∙◌, inl, inr, Bool, true, false, Decides, List, Some, length, map, get_or, set, refl, sym, ap, subst, subst₂, arith}
use Rattle.std.specs.Prelude.{◌==◌, ◌↔◌, if◌then◌else◌, unwrap_or}
use Rattle.std.specs.List.{range_with_len}
use Rattle.std.proofs.lemmas.Bool.{cases_lt}
use Rattle.std.proofs.lemmas.Bool.Decides.{Decides-eqb}
use Rattle.std.proofs.lemmas.List.{get_or-map, get_or-set_same, get_or-set_other, length-map}
use Rattle.std.proofs.lemmas.List.FromFn.{get_or-range_with_len, length-range_with_len}
use Rattle.rational.specs.Rational.{◌+ℚ◌, ◌≤ℚ◌}
use Rattle.enumpure.specs.Replies.{exchanged}
use Rattle.game_theory.specs.Behaviour.{Behaviour, IsChoice, is_own, pure, reply, value, value_to}
use Rattle.game_theory.specs.Mixed.{sure}
use Rattle.game_theory.specs.OwnSets.{action_counts, own_counts, own_sets, player_sets}
use Rattle.game_theory.specs.Profiles.{IsProfile, number_of, profile_at, profile_count}
use Rattle.game_theory.specs.Trees.{Tree, IsTree}
use Rattle.game_theory.proofs.ChildLemmas.{over_children-none}
use Rattle.game_theory.proofs.OwnSetLemmas.{among_at, index_of, is_own-decides, own_sets-has, own_sets-tell}
use Rattle.game_theory.proofs.ProfileNumberLemmas.{IsProfile-by_index, IsProfile-exchange, IsProfile-profile_at, length-profile, number_of-below, profile_at-number_of}
use Rattle.game_theory.proofs.SubtreeLemmas.{value-agree}
use Rattle.reduced_strategies.specs.Choices.{choice_at}
use Rattle.reduced_strategies.proofs.SetLemmas.{choice_at-map}
use Rattle.enumpure_trees.specs.Choices.{numbered_choice, whole_choices}
use Rattle.enumpure_trees.specs.Games.{AllPlayBest, strategy_count}
use Rattle.enumpure_trees.specs.PassingChoices.{IsAgentEquilibriumAt, IsTestedEquilibriumAt, agent_reply}
use Rattle.subgames.specs.Perfect.{IsEquilibriumAt}
use Rattle.reduced_strategies.proofs.ChoiceListLemmas.{choice_at-exchanged, choice_at-kept, choice_at-within}
use Rattle.enumpure_trees.proofs.ColumnLemmas.{game_at}
use Rattle.enumpure_trees.proofs.JoinedChoiceLemmas.{choice_at-joined, joined-count, own_choice, profile_at-joined}
use Rattle.game_theory.proofs.PlayerSetLemmas.{player_sets-apart, player_sets-has, player_sets-tell}

-- ---- values
-- a number past the nodes has no children
value_to-past : (t : Tree) (b other : Behaviour) (i : ℕ) → IsTree t → (d k : ℕ) → t.size ≤ k → value_to t b i d k ≡ value_to t other i d k
value_to-past t b other i w zero k past = refl
value_to-past t b other i w (suc d) k past = ap (λ x. t.pays k i +ℚ x) (over_children-none t k _ none ∙ sym (over_children-none t k _ none))
  where
    none : (c : ℕ) → 0 < c → c < t.size → t.parent c ≡ k → ⊥
    none c later below e = absurd (omega (arith, w.after_parent c later below, e, past))

-- behaviours that are the same at the players' sets have the same values
pub value-same : (t : Tree) (b other : Behaviour) (i k : ℕ) → IsTree t → ((s j a : ℕ) → s < t.sets → t.owner s ≡ Some j → b s a ≡ other s a) → value t b i k ≡ value t other i k
value-same t b other i k w same = elim (cases_lt k t.size) [
  | inl node ↦ value-agree t b other i k w node (λ c s j a within below at own action. same s j a (w.sets_within c s below at) own)
  | inr past ↦ value_to-past t b other i w t.size k past
]

-- ---- agents
module _ (t : Tree) (w : IsTree t) (n : ℕ) (below : n < whole_choices t) where
  length-choice : length (profile_at (action_counts t) n) ≡ length (player_sets t)
  length-choice = length-profile (action_counts t) (profile_at (action_counts t) n) (IsProfile-profile_at (action_counts t) n below) ∙ length-map (player_sets t) t.actions

  module _ (j a : ℕ) (agent : j < length (player_sets t)) (action : a < t.actions (get_or (player_sets t) j 0)) where
    -- the choice after an agent's exchange
    after_exchange : (s : ℕ) → numbered_choice t (exchanged (action_counts t) n j a) s ≡ choice_at (player_sets t) (set (profile_at (action_counts t) n) j a) s
    after_exchange s =
        let counts = action_counts t in
        let inside : j < length counts = omega (arith, agent, length-map (player_sets t) t.actions) in
        let allowed : a < get_or counts j 0 = subst (λ m. a < m) (sym (get_or-map t.actions (player_sets t) j 0 0 agent)) action in
        ap (λ ss. choice_at (player_sets t) ss s) (profile_at-number_of counts (set (profile_at counts n) j a) (IsProfile-exchange counts (profile_at counts n) j a (IsProfile-profile_at counts n below) inside allowed))

    -- it has the values of the agent's reply
    pub agent-value : (i k : ℕ) → value t (pure (numbered_choice t (exchanged (action_counts t) n j a))) i k ≡ value t (agent_reply (pure (numbered_choice t n)) (get_or (player_sets t) j 0) a) i k
    agent-value i k = value-same t _ _ i k w (λ s o x l own. go s x (s == get_or (player_sets t) j 0) (Decides-eqb s (get_or (player_sets t) j 0)))
      where
        go : (s x : ℕ) (b : Bool) → Decides b (s ≡ get_or (player_sets t) j 0) → pure (numbered_choice t (exchanged (action_counts t) n j a)) s x ≡ (if b then sure a x else pure (numbered_choice t n) s x)
        go s x true d =
            ap (λ c. sure c x) (after_exchange s ∙ ap (λ r. choice_at (player_sets t) (set (profile_at (action_counts t) n) j a) r) (d.0 refl) ∙ choice_at-exchanged (player_sets t) (profile_at (action_counts t) n) j a length-choice agent (player_sets-apart t))
        go s x false d =
            let other : get_or (player_sets t) j 0 ≡ s → ⊥ = λ e. let h : false ≡ true = d.1 (sym e) in cc in
            ap (λ c. sure c x) (after_exchange s ∙ choice_at-kept (player_sets t) (profile_at (action_counts t) n) j a s length-choice agent other)

  -- all agents play best replies exactly where no agent has a better one
  agents_passing : (k : ℕ) → AllPlayBest (game_at true t k) n ↔ IsAgentEquilibriumAt t (pure (numbered_choice t n)) k
  agents_passing k = (there, back)
    where
      owner-at : (j i : ℕ) → j < length (player_sets t) → t.owner (get_or (player_sets t) j 0) ≡ Some i → get_or (map (λ s. unwrap_or (t.owner s) 0) (player_sets t)) j 0 ≡ i
      owner-at j i agent own = get_or-map (λ s. unwrap_or (t.owner s) 0) (player_sets t) j 0 0 agent ∙ ap (λ o. unwrap_or o 0) own

      there : AllPlayBest (game_at true t k) n → IsAgentEquilibriumAt t (pure (numbered_choice t n)) k
      there all s i action inside own few =
          let at = index_of (player_sets t) s (player_sets-has t s i w inside own) in
          let j = at.0 in
          let agent = at.1 in
          let allowed : action < t.actions (get_or (player_sets t) j 0) = subst (λ r. action < t.actions r) (sym at.2) few in
          let best = all j (omega (arith, agent, length-map (player_sets t) t.actions)) action (subst (λ m. action < m) (sym (get_or-map t.actions (player_sets t) j 0 0 agent)) allowed) in
          let who = owner-at j i agent (ap t.owner at.2 ∙ own) in
          let best_i = subst (λ o. value t (pure (numbered_choice t (exchanged (action_counts t) n j action))) o k ≤ℚ value t (pure (numbered_choice t n)) o k) who best in
          let b = pure (numbered_choice t n) in
          subst (λ r. value t (agent_reply b r action) i k ≤ℚ value t b i k) at.2 (subst (λ v. v ≤ℚ value t b i k) (agent-value j action agent allowed i k) best_i)

      back : IsAgentEquilibriumAt t (pure (numbered_choice t n)) k → AllPlayBest (game_at true t k) n
      back passing j l action few =
          let agent : j < length (player_sets t) = omega (arith, l, length-map (player_sets t) t.actions) in
          let s = get_or (player_sets t) j 0 in
          let is = player_sets-tell t s (among_at (player_sets t) j 0 agent) in
          let allowed : action < t.actions s = subst (λ m. action < m) (get_or-map t.actions (player_sets t) j 0 0 agent) few in
          let b = pure (numbered_choice t n) in
          let best = subst (λ v. v ≤ℚ value t b is.0 k) (sym (agent-value j action agent allowed is.0 k)) (passing s is.0 action is.1 is.2 allowed) in
          subst (λ o. value t (pure (numbered_choice t (exchanged (action_counts t) n j action))) o k ≤ℚ value t b o k) (sym (owner-at j is.0 agent is.2)) best

-- ---- players
module _ (t : Tree) where
  -- how many choices each player has
  abbrev own_numbers : List ℕ
  own_numbers = map (strategy_count t) (range_with_len 0 t.players)

  own_numbers-length : length (map (strategy_count t) (range_with_len 0 t.players)) ≡ t.players
  own_numbers-length = length-map (range_with_len 0 t.players) (strategy_count t) ∙ length-range_with_len 0 t.players

  own_numbers-at : (i : ℕ) → i < t.players → get_or (map (strategy_count t) (range_with_len 0 t.players)) i 0 ≡ strategy_count t i
  own_numbers-at i player =
      get_or-map (strategy_count t) (range_with_len 0 t.players) i 0 0 (omega (arith, player, length-range_with_len 0 t.players)) ∙ ap (strategy_count t) (get_or-range_with_len 0 t.players i 0 player ∙ omega arith)

module _ (t : Tree) (w : IsTree t) (n : ℕ) (below : n < whole_choices t) where
  -- the number is one of a profile of the players
  profile_number : n < profile_count (own_numbers t)
  profile_number = omega (arith, below, joined-count t (range_with_len 0 t.players))

  own_profile : IsProfile (own_numbers t) (profile_at (own_numbers t) n)
  own_profile = IsProfile-profile_at (own_numbers t) n profile_number

  -- a set's choice by the number of its owner's own choices
  pub choice-own : (s i : ℕ) (inside : s < t.sets) (own : t.owner s ≡ Some i) → i < t.players → numbered_choice t n s ≡ own_choice t s i inside own (get_or (profile_at (own_numbers t) n) i 0)
  choice-own s i inside own player =
      ap (λ ss. choice_at (player_sets t) ss s) (profile_at-joined t (range_with_len 0 t.players) n below)
      ∙ choice_at-joined t s i inside own 0 t.players (profile_at (own_numbers t) n) own_profile (omega arith) (omega (arith, player)) ∙ ap (λ j. own_choice t s i inside own (get_or (profile_at (own_numbers t) n) j 0)) (omega arith)

module _ (t : Tree) (w : IsTree t) (n : ℕ) (below : n < whole_choices t) (i m : ℕ) (player : i < t.players) (few : m < strategy_count t i) where
  -- the profile after a player's exchange
  changed-profile : IsProfile (own_numbers t) (set (profile_at (own_numbers t) n) i m)
  changed-profile =
      IsProfile-exchange (own_numbers t) (profile_at (own_numbers t) n) i m (own_profile t w n below) (omega (arith, player, own_numbers-length t)) (subst (λ x. m < x) (sym (own_numbers-at t i player)) few)

  exchanged-below : exchanged (own_numbers t) n i m < whole_choices t
  exchanged-below = omega (arith, joined-count t (range_with_len 0 t.players), number_of-below (own_numbers t) (set (profile_at (own_numbers t) n) i m) changed-profile)

  choice-changed : (s j : ℕ) (inside : s < t.sets) (own : t.owner s ≡ Some j) → j < t.players → numbered_choice t (exchanged (own_numbers t) n i m) s ≡ own_choice t s j inside own (get_or (set (profile_at (own_numbers t) n) i m) j 0)
  choice-changed s j inside own is_player =
      choice-own t w (exchanged (own_numbers t) n i m) exchanged-below s j inside own is_player ∙ ap (λ ss. own_choice t s j inside own (get_or ss j 0)) (profile_at-number_of (own_numbers t) (set (profile_at (own_numbers t) n) i m) changed-profile)

  -- it has the values of the player's reply
  pub player-value : (choice : ℕ → ℕ) → ((s : ℕ) → s < t.sets → t.owner s ≡ Some i → choice s ≡ choice_at (own_sets t i) (profile_at (own_counts t i) m) s) → (k : ℕ)
      → value t (pure (numbered_choice t (exchanged (own_numbers t) n i m))) i k ≡ value t (reply t (pure (numbered_choice t n)) i choice) i k
  player-value choice is k = value-same t _ _ i k w (λ s j x inside own. go s j x inside own (is_own t i s) (is_own-decides t i s))
    where
      go : (s j x : ℕ) (inside : s < t.sets) (own : t.owner s ≡ Some j) (b : Bool) → Decides b (t.owner s ≡ Some i) → pure (numbered_choice t (exchanged (own_numbers t) n i m)) s x ≡ (if b then sure (choice s) x else pure (numbered_choice t n) s x)
      go s j x inside own true d =
          let own_i = d.0 refl in
          let at = get_or-set_same (profile_at (own_numbers t) n) i m 0 (omega (arith, player, own_numbers-length t, length-profile (own_numbers t) (profile_at (own_numbers t) n) (own_profile t w n below))) in
          ap (λ c. sure c x) (choice-changed s i inside own_i player ∙ ap (own_choice t s i inside own_i) at ∙ sym (is s inside own_i))
      go s j x inside own false d =
          let other : j ≡ i → ⊥ = λ e. let h : false ≡ true = d.1 (own ∙ ap Some e) in cc in
          let is_player = w.owners_within s j inside own in
          ap (λ c. sure c x) (choice-changed s j inside own is_player ∙ ap (own_choice t s j inside own) (get_or-set_other (profile_at (own_numbers t) n) i j m 0 other) ∙ sym (choice-own t w n below s j inside own is_player))

module _ (t : Tree) (w : IsTree t) (n : ℕ) (below : n < whole_choices t) (k : ℕ) where
  -- a player's choice at the own sets, and its number
  own_profile_of : (i : ℕ) (choice : ℕ → ℕ) → IsChoice t i choice → IsProfile (own_counts t i) (map choice (own_sets t i))
  own_profile_of i choice allowed =
      IsProfile-by_index (own_counts t i) (map choice (own_sets t i)) (length-map (own_sets t i) choice ∙ sym (length-map (own_sets t i) t.actions))
      (λ j l. let here : j < length (own_sets t i) = omega (arith, l, length-map (own_sets t i) t.actions) in
      let s = get_or (own_sets t i) j 0 in
      let own = own_sets-tell t i s (among_at (own_sets t i) j 0 here) in
      subst₂ (λ x y. x < y) (sym (get_or-map choice (own_sets t i) j 0 0 here)) (sym (get_or-map t.actions (own_sets t i) j 0 0 here)) (allowed s own.0 own.1))

  -- all players play best replies exactly where no player has a better one
  players_passing : AllPlayBest (game_at false t k) n ↔ IsEquilibriumAt t (pure (numbered_choice t n)) k
  players_passing = (there, back)
    where
      who : (i : ℕ) → i < t.players → get_or (range_with_len 0 t.players) i 0 ≡ i
      who i player = get_or-range_with_len 0 t.players i 0 player ∙ omega arith

      there : AllPlayBest (game_at false t k) n → IsEquilibriumAt t (pure (numbered_choice t n)) k
      there all i choice player allowed =
          let own = own_counts t i in
          let ss = map choice (own_sets t i) in
          let is_profile = own_profile_of i choice allowed in
          let m = number_of own ss in
          let few = number_of-below own ss is_profile in
          let best = all i (omega (arith, player, own_numbers-length t)) m (subst (λ x. m < x) (sym (own_numbers-at t i player)) few) in
          let b = pure (numbered_choice t n) in
          let best_i = subst (λ o. value t (pure (numbered_choice t (exchanged (own_numbers t) n i m))) o k ≤ℚ value t b o k) (who i player) best in
          let same = player-value t w n below i m player few choice
          (λ s inside is_own. sym (choice_at-map choice (own_sets t i) s (own_sets-has t i s inside is_own)) ∙ ap (λ x. choice_at (own_sets t i) x s) (sym (profile_at-number_of own ss is_profile))) k in
          subst (λ v. v ≤ℚ value t b i k) same best_i

      back : IsEquilibriumAt t (pure (numbered_choice t n)) k → AllPlayBest (game_at false t k) n
      back passing i l m few =
          let player : i < t.players = omega (arith, l, own_numbers-length t) in
          let own = own_counts t i in
          let few_i : m < strategy_count t i = subst (λ x. m < x) (own_numbers-at t i player) few in
          let choice : ℕ → ℕ = λ s. choice_at (own_sets t i) (profile_at own m) s in
          let allowed : IsChoice t i choice = λ s inside is_own. choice_at-within t.actions (own_sets t i) (profile_at own m) s (IsProfile-profile_at own m few_i) (own_sets-has t i s inside is_own) in
          let b = pure (numbered_choice t n) in
          let best = subst (λ v. v ≤ℚ value t b i k) (sym (player-value t w n below i m player few_i choice (λ s inside is_own. refl) k)) (passing i choice player allowed) in
          subst (λ o. value t (pure (numbered_choice t (exchanged (own_numbers t) n i m))) o k ≤ℚ value t b o k) (sym (who i player)) best

-- ---- both
-- all play best replies in the game at a node exactly where the choice is an equilibrium there
pub passing-by_replies : (agents : Bool) (t : Tree) (n k : ℕ) → IsTree t → n < whole_choices t → AllPlayBest (game_at agents t k) n ↔ IsTestedEquilibriumAt agents t (pure (numbered_choice t n)) k
passing-by_replies true t n k w below = agents_passing t w n below k
passing-by_replies false t n k w below = players_passing t w n below k
