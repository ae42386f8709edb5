-- The pure equilibria of the strategic form are those of the tree.
use Rattle.std.proofs.Common.{ℕ, suc, ◌-◌, ◌<◌, ◌≡◌, ◌≢◌, inl, inr, Bool, true, false, Decides, Some, List, [], length, map, get_or, set, refl, sym, ap, ◌∙◌, subst, subst₂, arith}
use Rattle.std.specs.Prelude.{if◌then◌else◌}
use Rattle.std.proofs.lemmas.Bool.{cases_eq}
use Rattle.std.proofs.lemmas.List.{length-map, get_or-set_same, get_or-set_other, get_or_default}
use Rattle.game_theory.specs.OwnSets.{own_sets}
use Rattle.game_theory.proofs.OwnSetLemmas.{is_own-decides}
use Rattle.rational.specs.Rational.{◌≤ℚ◌}
use Rattle.game_theory.specs.Profiles.{IsProfile, number_of}
use Rattle.game_theory.specs.Mixed.{sure, pure as pure_profile}
use Rattle.game_theory.specs.Equilibrium.{IsEquilibrium as is_table_equilibrium}
use Rattle.game_theory.specs.Laws.{NoGreaterCell}
use Rattle.game_theory.proofs.SureStrategyLemmas.{sure-not_negative, sum_to-sure}
use Rattle.game_theory.proofs.ProfileNumberLemmas.{length-profile, profile_at-number_of, IsProfile-exchange}
use Rattle.game_theory.proofs.PureProfileLemmas.{NoGreaterCell-equilibrium, IsEquilibrium-by_cells}
use Rattle.game_theory.specs.Trees.{Tree, IsTree}
use Rattle.game_theory.specs.Behaviour.{IsValid, IsChoice, is_own, payoff, pure, reply}
use Rattle.game_theory.specs.TreeEquilibrium.{IsEquilibrium}
use Rattle.game_theory.proofs.SubtreeLemmas.{value-agree}
use Rattle.reduced_strategies.specs.Choices.{choice_at}
use Rattle.reduced_strategies.specs.StrategicForm.{AreStrategies, list_of, given_at, completed, IsCompletion, strategic_form}
use Rattle.reduced_strategies.specs.Laws.{PureEquilibriaAreThoseOfTheTree}
use Rattle.reduced_strategies.proofs.ReducedStrategyLemmas.{CompletesList, choices-have_reduced}
use Rattle.reduced_strategies.proofs.StrategyProfileLemmas.{strategies-count, strategies-of, given_at-own, first_actions-complete}
use Rattle.reduced_strategies.proofs.CompletionLemmas.{completions-pay}

-- player i's own sets by a first choice, and the others by a second
abbrev by_owner : Tree → ℕ → (ℕ → ℕ) → (ℕ → ℕ) → ℕ → ℕ
by_owner t i choice others s = if is_own t i s then choice s else others s

-- an own set
by_owner-own : (t : Tree) (i : ℕ) (choice others : ℕ → ℕ) (s : ℕ) → t.owner s ≡ Some i → by_owner t i choice others s ≡ choice s
by_owner-own t i choice others s o = ap (λ b. if b then choice s else others s) ((is_own-decides t i s).1 o)

-- a set of another player
by_owner-other : (t : Tree) (i j : ℕ) (choice others : ℕ → ℕ) (s : ℕ) → t.owner s ≡ Some j → j ≢ i → by_owner t i choice others s ≡ others s
by_owner-other t i j choice others s o apart = go (is_own t i s) (is_own-decides t i s)
  where
    go : (b : Bool) → Decides b (t.owner s ≡ Some i) → (if b then choice s else others s) ≡ others s
    go true d = let e : Some j ≡ Some i = sym o ∙ d.0 refl in absurd (apart (cc))
    go false d = refl

-- a pure reply to pure choices is a pure choice
reply-pure : (t : Tree) (i : ℕ) (choice others : ℕ → ℕ) (s a : ℕ) → reply t (pure others) i choice s a ≡ pure (by_owner t i choice others) s a
reply-pure t i choice others s a = go (is_own t i s)
  where
    go : (b : Bool) → (if b then sure (choice s) a else sure (others s) a) ≡ sure (if b then choice s else others s) a
    go true = refl
    go false = refl

-- and pays what that choice pays
payoff-reply : (t : Tree) (i j : ℕ) (choice others : ℕ → ℕ) → IsTree t → payoff t (reply t (pure others) i choice) j ≡ payoff t (pure (by_owner t i choice others)) j
payoff-reply t i j choice others w = value-agree t _ _ j 0 w w.some_node (λ c s k a n l e o m. reply-pure t i choice others s a)

-- a profile's cell pays what its first actions pay on the tree
pays-cell : (t : Tree) (strategies : List (List (List ℕ))) (profile : List ℕ) (i : ℕ) → IsProfile (map length strategies) profile → (strategic_form t strategies).pays i (number_of (map length strategies) profile) ≡ payoff t (pure (completed t strategies profile)) i
pays-cell t strategies profile i f = ap (λ x. payoff t (pure (completed t strategies x)) i) (profile_at-number_of (map length strategies) profile f)

-- first actions are valid behaviour
completed-valid : (t : Tree) (strategies : List (List (List ℕ))) (profile : List ℕ) → IsTree t → AreStrategies t strategies → IsProfile (map length strategies) profile → IsValid t (pure (completed t strategies profile))
completed-valid t strategies profile w a f s i l o =
    record {
      not_negative = λ n m. sure-not_negative (completed t strategies profile s) n;
      sum_is_one = sum_to-sure (t.actions s) (completed t strategies profile s) (first_actions-complete t strategies profile w a f s i l o).0;
    }

-- ---- one player's strategy exchanged
-- the others' lists are as before
list_of-kept : (strategies : List (List (List ℕ))) (profile : List ℕ) (i n j : ℕ) → j ≢ i → list_of strategies (set profile i n) j ≡ list_of strategies profile j
list_of-kept strategies profile i n j apart = ap (λ x. get_or (get_or strategies j []) x []) (get_or-set_other profile i j n 0 apart)

-- and so is what the profile gives their sets
given_at-kept : (t : Tree) (strategies : List (List (List ℕ))) (profile : List ℕ) (i n s j : ℕ) → t.owner s ≡ Some j → j ≢ i → given_at t strategies (set profile i n) s ≡ given_at t strategies profile s
given_at-kept t strategies profile i n s j o apart =
    given_at-own t strategies (set profile i n) s j o
    ∙ ap (λ x. choice_at (own_sets t j) x s) (list_of-kept strategies profile i n j apart)
    ∙ sym (given_at-own t strategies profile s j o)

-- first actions, but player i's own sets by a choice
abbrev replied : Tree → List (List (List ℕ)) → List ℕ → ℕ → (ℕ → ℕ) → ℕ → ℕ
replied t strategies profile i choice = by_owner t i choice (completed t strategies profile)

-- what a completion of a profile does at a set
abbrev CompletesAt : Tree → List (List (List ℕ)) → List ℕ → (ℕ → ℕ) → ℕ → Type 0
CompletesAt t strategies profile choice s = (choice s < t.actions s) × (0 < given_at t strategies profile s → suc (choice s) ≡ given_at t strategies profile s)

-- choices that are the same at a set, to which two profiles give the same
CompletesAt-same : (t : Tree) (strategies : List (List (List ℕ))) (one other : List ℕ) (choice changed : ℕ → ℕ) (s : ℕ) → changed s ≡ choice s → given_at t strategies other s ≡ given_at t strategies one s → CompletesAt t strategies one choice s → CompletesAt t strategies other changed s
CompletesAt-same t strategies one other choice changed s e d h = (omega (arith, h.0), λ p. ap suc e ∙ h.1 (omega arith) ∙ sym d)

-- Player i changes to strategy n, which is the reduced strategy of a choice.
module _ (t : Tree) (strategies : List (List (List ℕ))) (profile : List ℕ) (i n : ℕ) (choice : ℕ → ℕ) (w : IsTree t) (a : AreStrategies t strategies) (f : IsProfile (map length strategies) profile) (player : i < t.players) (l : n < length (get_or strategies i [])) (c : IsChoice t i choice) (fits : CompletesList t i choice (get_or (get_or strategies i []) n [])) where
  -- the player is one of those of the profile
  player-within : i < length (map (length {A = List ℕ}) strategies)
  player-within = omega (arith, a.one_for_each, length-map strategies (length {A = List ℕ}))

  -- the strategy is one of the player's
  strategy-within : n < get_or (map (length {A = List ℕ}) strategies) i 0
  strategy-within = subst (λ x. n < x) (sym (strategies-count strategies i)) l

  -- the player's list is the new one
  list_of-exchanged : list_of strategies (set profile i n) i ≡ get_or (get_or strategies i []) n []
  list_of-exchanged =
      let long = length-profile (map length strategies) profile f in
      ap (λ x. get_or (get_or strategies i []) x []) (get_or-set_same profile i n 0 (omega (arith, player-within, long)))

  -- the reply completes the new profile at the player's sets
  reply-completes_own : (s : ℕ) → s < t.sets → t.owner s ≡ Some i → CompletesAt t strategies (set profile i n) (replied t strategies profile i choice) s
  reply-completes_own s m o =
      let same : replied t strategies profile i choice s ≡ choice s = by_owner-own t i choice (completed t strategies profile) s o in
      let given = given_at-own t strategies (set profile i n) s i o ∙ ap (λ x. choice_at (own_sets t i) x s) list_of-exchanged in
      (omega (arith, c s m o), λ p. ap suc same ∙ sym (fits s (omega arith)) ∙ sym given)

  -- and at the others'
  reply-completes_other : (s j : ℕ) → s < t.sets → t.owner s ≡ Some j → j ≢ i → CompletesAt t strategies (set profile i n) (replied t strategies profile i choice) s
  reply-completes_other s j m o apart =
      let same = by_owner-other t i j choice (completed t strategies profile) s o apart in
      let given = given_at-kept t strategies profile i n s j o apart in
      CompletesAt-same t strategies profile (set profile i n) (completed t strategies profile) (replied t strategies profile i choice) s same given (first_actions-complete t strategies profile w a f s j m o)

  -- so it completes the new profile
  reply-completes : IsCompletion t strategies (set profile i n) (replied t strategies profile i choice)
  reply-completes s j m o = elim (cases_eq j i) [ inl e ↦ reply-completes_own s m (o ∙ ap Some e) | inr e ↦ reply-completes_other s j m o e ]

  -- and pays the cell of that profile
  reply-pays : payoff t (reply t (pure (completed t strategies profile)) i choice) i ≡ (strategic_form t strategies).pays i (number_of (map length strategies) (set profile i n))
  reply-pays =
      let exchanged = IsProfile-exchange (map length strategies) profile i n f player-within strategy-within in
      payoff-reply t i i choice (completed t strategies profile) w
      ∙ completions-pay t strategies (set profile i n) (replied t strategies profile i choice) i w a exchanged reply-completes
      ∙ sym (pays-cell t strategies (set profile i n) i exchanged)

  -- which at an equilibrium of the strategic form is no more than the profile's
  reply-no_better : NoGreaterCell (strategic_form t strategies) profile → payoff t (reply t (pure (completed t strategies profile)) i choice) i ≤ℚ payoff t (pure (completed t strategies profile)) i
  reply-no_better best = subst₂ (λ x y. x ≤ℚ y) (sym reply-pays) (pays-cell t strategies profile i f) (best i n player-within strategy-within)

-- each reply is by a choice whose reduced strategy is one of the player's
no_better_reply : (t : Tree) (strategies : List (List (List ℕ))) (profile : List ℕ) (i : ℕ) (choice : ℕ → ℕ) → IsTree t → AreStrategies t strategies → IsProfile (map length strategies) profile → NoGreaterCell (strategic_form t strategies) profile → i < t.players → IsChoice t i choice
    → payoff t (reply t (pure (completed t strategies profile)) i choice) i ≤ℚ payoff t (pure (completed t strategies profile)) i
no_better_reply t strategies profile i choice w a f best player c =
    let h = choices-have_reduced t i choice w c in
    let member = (strategies-of t strategies i a player).complete h.choices h.is_reduced in
    let place = get_or_default (get_or strategies i []) member.0 [] h.choices member.1 ∙ member.2 in
    reply-no_better t strategies profile i member.0 choice w a f player member.1 c (subst (CompletesList t i choice) (sym place) h.is_completed) best

-- a pure equilibrium of the strategic form, completed, is an equilibrium of the tree
equilibrium-of_table : (t : Tree) (strategies : List (List (List ℕ))) (profile : List ℕ) → IsTree t → AreStrategies t strategies → IsProfile (map length strategies) profile
    → is_table_equilibrium (strategic_form t strategies) (pure_profile profile) → IsEquilibrium t (pure (completed t strategies profile))
equilibrium-of_table t strategies profile w a f e =
    record {
      valid = completed-valid t strategies profile w a f;
      no_better_reply = λ i choice player c. no_better_reply t strategies profile i choice w a f (NoGreaterCell-equilibrium (strategic_form t strategies) profile f e) player c;
    }

-- ---- from the tree to the strategic form
-- first actions, but player i's own sets by the first actions of strategy n, are the first actions of the profile with that strategy
replied-completed : (t : Tree) (strategies : List (List (List ℕ))) (profile : List ℕ) (i n s j : ℕ) → t.owner s ≡ Some j → replied t strategies profile i (completed t strategies (set profile i n)) s ≡ completed t strategies (set profile i n) s
replied-completed t strategies profile i n s j o = elim (cases_eq j i) [ inl e ↦ own (o ∙ ap Some e) | inr e ↦ other e ]
  where
    own : t.owner s ≡ Some i → replied t strategies profile i (completed t strategies (set profile i n)) s ≡ completed t strategies (set profile i n) s
    own p = by_owner-own t i (completed t strategies (set profile i n)) (completed t strategies profile) s p

    other : j ≢ i → replied t strategies profile i (completed t strategies (set profile i n)) s ≡ completed t strategies (set profile i n) s
    other apart =
        by_owner-other t i j (completed t strategies (set profile i n)) (completed t strategies profile) s o apart
        ∙ ap (λ x. x - 1) (sym (given_at-kept t strategies profile i n s j o apart))

-- so the reply by them pays the cell of that profile
first_actions-pay : (t : Tree) (strategies : List (List (List ℕ))) (profile : List ℕ) (i n : ℕ) → IsTree t → IsProfile (map length strategies) (set profile i n)
    → payoff t (reply t (pure (completed t strategies profile)) i (completed t strategies (set profile i n))) i ≡ (strategic_form t strategies).pays i (number_of (map length strategies) (set profile i n))
first_actions-pay t strategies profile i n w g =
    let same = value-agree t (pure (replied t strategies profile i (completed t strategies (set profile i n)))) (pure (completed t strategies (set profile i n))) i 0 w w.some_node (λ c s j a p l e o m. ap (λ x. sure x a) (replied-completed t strategies profile i n s j o)) in
    payoff-reply t i i (completed t strategies (set profile i n)) (completed t strategies profile) w ∙ same ∙ sym (pays-cell t strategies (set profile i n) i g)

-- and at an equilibrium of the tree no cell by another strategy pays its player more
cells-no_greater : (t : Tree) (strategies : List (List (List ℕ))) (profile : List ℕ) → IsTree t → AreStrategies t strategies → IsProfile (map length strategies) profile → IsEquilibrium t (pure (completed t strategies profile)) → NoGreaterCell (strategic_form t strategies) profile
cells-no_greater t strategies profile w a f e i n l b =
    let exchanged = IsProfile-exchange (map length strategies) profile i n f l b in
    let player : i < t.players = omega (arith, a.one_for_each, length-map strategies (length {A = List ℕ})) in
    let best = e.no_better_reply i (completed t strategies (set profile i n)) player (λ s m o. (first_actions-complete t strategies (set profile i n) w a exchanged s i m o).0) in
    subst₂ (λ x y. x ≤ℚ y) (first_actions-pay t strategies profile i n w exchanged) (sym (pays-cell t strategies profile i f)) best

-- the pure equilibria of the strategic form are those of the tree
pub equilibria-same : PureEquilibriaAreThoseOfTheTree
equilibria-same t strategies profile w a f =
    (equilibrium-of_table t strategies profile w a f, λ e. IsEquilibrium-by_cells (strategic_form t strategies) profile f (cells-no_greater t strategies profile w a f e))
