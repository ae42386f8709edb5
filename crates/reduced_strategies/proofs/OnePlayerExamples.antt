-- The tree of one player: its three reduced strategies, under two numberings of its sets.
use Rattle.std.proofs.Common.{ℕ, zero, suc, ◌<◌, ◌≤◌, ◌≡◌, ◌⊎◌, ◌↔◌, inl, inr, ⊎_elim, Some, List, [], ◌∷◌, length, All, Contains, refl, sym, subst, arith}
use Rattle.std.proofs.lemmas.Bool.{cases_lt}
use Rattle.game_theory.specs.OwnSets.{own_sets}
use Rattle.game_theory.proofs.OwnSetLemmas.{own_sets-tell}
use Rattle.game_theory.specs.Trees.{Tree, IsTree}
use Rattle.game_theory.proofs.TreeTestLemmas.{tree-tested, coin_toss}
use Rattle.reduced_strategies.specs.Choices.{choice_at, IsReachedUnder, IsReduced}
use Rattle.reduced_strategies.specs.Examples.{one_player_tree, renumbered, ReducedStrategiesOfOnePlayer}
use Rattle.reduced_strategies.proofs.SetLemmas.{choice_at-among}

-- ---- a tree that ends or goes on
-- Player 0 has two sets of two actions. One is always reached, and the other exactly by the second action there.
record EndsOrGoesOn (t : Tree) (first second : ℕ) : Type 0 where
  first_set : first < t.sets
  first_own : t.owner first ≡ Some 0
  second_set : second < t.sets
  second_own : t.owner second ≡ Some 0
  no_other_set : (s : ℕ) → s < t.sets → (s ≡ first) ⊎ (s ≡ second)
  two_actions : (s : ℕ) → t.actions s ≡ 2
  first_reached : (choice : ℕ → ℕ) → IsReachedUnder t 0 choice first
  second_reached : (choice : ℕ → ℕ) → IsReachedUnder t 0 choice second ↔ (choice first ≡ 2)

-- what is chosen at the two sets: an action at the first, and one at the second exactly where the first is the second action
record IsOne (x y : ℕ) : Type 0 where
  some_first : 0 < x
  first_action : x ≤ 2
  second_action : y ≤ 2
  second_where_reached : (0 < y) ↔ (x ≡ 2)

-- there are three such pairs
one-cases : (x y : ℕ) → IsOne x y → ((x ≡ 1) × (y ≡ 0)) ⊎ (((x ≡ 2) × (y ≡ 1)) ⊎ ((x ≡ 2) × (y ≡ 2)))
one-cases zero y o = absurd (omega (arith, o.some_first))
one-cases (suc zero) zero o = inl (refl, refl)
one-cases (suc zero) (suc y) o = absurd (omega (arith, o.second_where_reached.0 (omega arith)))
one-cases (suc (suc zero)) zero o = absurd (omega (arith, o.second_where_reached.1 refl))
one-cases (suc (suc zero)) (suc zero) o = inr (inl (refl, refl))
one-cases (suc (suc zero)) (suc (suc zero)) o = inr (inr (refl, refl))
one-cases (suc (suc zero)) (suc (suc (suc y))) o = absurd (omega (arith, o.second_action))
one-cases (suc (suc (suc x))) y o = absurd (omega (arith, o.first_action))

-- to end the game, with no action at the second set
ends : IsOne 1 0
ends = record { some_first = omega arith; first_action = omega arith; second_action = omega arith; second_where_reached = (λ h. absurd (omega arith), λ h. absurd (omega arith)) }

-- to go on, with any action there
goes_on : (y : ℕ) → 0 < y → y ≤ 2 → IsOne 2 y
goes_on y h l = record { some_first = omega arith; first_action = omega arith; second_action = l; second_where_reached = (λ p. refl, λ e. h) }

-- a choice list that gives the two sets such a pair has actions of its sets
one-actions : (t : Tree) (first second : ℕ) (choices : List ℕ) → EndsOrGoesOn t first second → IsOne (choice_at (own_sets t 0) choices first) (choice_at (own_sets t 0) choices second) → (s : ℕ) → choice_at (own_sets t 0) choices s ≤ t.actions s
one-actions t first second choices g o s = subst (λ n. choice_at (own_sets t 0) choices s ≤ n) (sym (g.two_actions s)) (elim (cases_lt 0 (choice_at (own_sets t 0) choices s)) [ inl h ↦ given h | inr h ↦ omega arith ])
  where
    at : (s ≡ first) ⊎ (s ≡ second) → choice_at (own_sets t 0) choices s ≤ 2
    at (inl e) = subst (λ x. choice_at (own_sets t 0) choices x ≤ 2) (sym e) o.first_action
    at (inr e) = subst (λ x. choice_at (own_sets t 0) choices x ≤ 2) (sym e) o.second_action

    given : 0 < choice_at (own_sets t 0) choices s → choice_at (own_sets t 0) choices s ≤ 2
    given h = at (g.no_other_set s (own_sets-tell t 0 s (choice_at-among (own_sets t 0) choices s h)).0)

-- a choice list is fixed at a set exactly where it reaches the set
abbrev IsFixedAt : Tree → List ℕ → ℕ → Type 0
IsFixedAt t choices s = (0 < choice_at (own_sets t 0) choices s) ↔ IsReachedUnder t 0 (choice_at (own_sets t 0) choices) s

-- and so is that list
one-fixed : (t : Tree) (first second : ℕ) (choices : List ℕ) → EndsOrGoesOn t first second → IsOne (choice_at (own_sets t 0) choices first) (choice_at (own_sets t 0) choices second) → (s : ℕ) → (s ≡ first) ⊎ (s ≡ second) → IsFixedAt t choices s
one-fixed t first second choices g o s (inl e) = subst (IsFixedAt t choices) (sym e) (λ h. g.first_reached (choice_at (own_sets t 0) choices), λ h. o.some_first)
one-fixed t first second choices g o s (inr e) =
    let by = g.second_reached (choice_at (own_sets t 0) choices) in
    subst (IsFixedAt t choices) (sym e) (λ h. by.1 (o.second_where_reached.0 h), λ h. o.second_where_reached.1 (by.0 h))

-- so it is a reduced strategy
one-reduced : (t : Tree) (first second : ℕ) (choices : List ℕ) → EndsOrGoesOn t first second → length choices ≡ length (own_sets t 0) → IsOne (choice_at (own_sets t 0) choices first) (choice_at (own_sets t 0) choices second) → IsReduced t 0 choices
one-reduced t first second choices g e o =
    record { one_for_each = e; are_actions = one-actions t first second choices g o; fixed_where_reached = λ s l p. one-fixed t first second choices g o s (g.no_other_set s l) }

-- and each reduced strategy is such a list
reduced-one : (t : Tree) (first second : ℕ) (choices : List ℕ) → EndsOrGoesOn t first second → IsReduced t 0 choices → IsOne (choice_at (own_sets t 0) choices first) (choice_at (own_sets t 0) choices second)
reduced-one t first second choices g r =
    let fixed = r.fixed_where_reached second g.second_set g.second_own in
    let by = g.second_reached (choice_at (own_sets t 0) choices) in
    record {
      some_first = (r.fixed_where_reached first g.first_set g.first_own).1 (g.first_reached (choice_at (own_sets t 0) choices));
      first_action = omega (arith, r.are_actions first, g.two_actions first);
      second_action = omega (arith, r.are_actions second, g.two_actions second);
      second_where_reached = (λ h. by.0 (fixed.0 h), λ h. fixed.1 (by.1 h));
    }

-- a number below 2 is 0 or 1
below_two : (s : ℕ) → s < 2 → (s ≡ 0) ⊎ (s ≡ 1)
below_two zero l = inl refl
below_two (suc zero) l = inr refl
below_two (suc (suc s)) l = absurd (omega arith)

-- ---- the tree as it is numbered
-- it is a tree
one_player-tree : IsTree one_player_tree
one_player-tree =
    tree-tested one_player_tree (record { some_node = refl; nodes = refl; edges = refl; sets = refl }) (λ s l e. coin_toss one_player_tree s refl (λ a. refl))

-- the second set is reached by the second action at the first alone
one_player-second : (choice : ℕ → ℕ) → IsReachedUnder one_player_tree 0 choice 1 → choice 0 ≡ 2
one_player-second choice (zero, l, e, h) = cc
one_player-second choice (suc zero, l, e, h) = cc
one_player-second choice (suc (suc zero), l, e, h) = h.0
one_player-second choice (suc (suc (suc zero)), l, e, h) = cc
one_player-second choice (suc (suc (suc (suc zero))), l, e, h) = cc
one_player-second choice (suc (suc (suc (suc (suc k)))), l, e, h) = absurd (omega arith)

-- it ends or goes on
one_player-goes_on : EndsOrGoesOn one_player_tree 0 1
one_player-goes_on =
    record {
      first_set = omega arith;
      first_own = refl;
      second_set = omega arith;
      second_own = refl;
      no_other_set = below_two;
      two_actions = λ s. refl;
      first_reached = λ choice. (0, omega arith, refl, tt);
      second_reached = λ choice. (one_player-second choice, λ e. (2, omega arith, refl, (e, tt)));
    }

-- its reduced strategies
abbrev one_player_three : List (List ℕ)
one_player_three = (1 ∷ 0 ∷ []) ∷ (2 ∷ 1 ∷ []) ∷ (2 ∷ 2 ∷ []) ∷ []

-- each is a reduced strategy
one_player-sound : All (IsReduced one_player_tree 0) one_player_three
one_player-sound zero d l = one-reduced one_player_tree 0 1 (1 ∷ 0 ∷ []) one_player-goes_on refl ends
one_player-sound (suc zero) d l = one-reduced one_player_tree 0 1 (2 ∷ 1 ∷ []) one_player-goes_on refl (goes_on 1 (omega arith) (omega arith))
one_player-sound (suc (suc zero)) d l = one-reduced one_player_tree 0 1 (2 ∷ 2 ∷ []) one_player-goes_on refl (goes_on 2 (omega arith) (omega arith))
one_player-sound (suc (suc (suc k))) d l = absurd (omega arith)

-- each reduced strategy is one of the three
one_player-complete : (choices : List ℕ) → IsReduced one_player_tree 0 choices → Contains one_player_three choices
one_player-complete [] r = absurd (omega (arith, r.one_for_each))
one_player-complete (x ∷ []) r = absurd (omega (arith, r.one_for_each))
one_player-complete (x ∷ y ∷ z ∷ choices) r = absurd (omega (arith, r.one_for_each))
one_player-complete (x ∷ y ∷ []) r = elim (one-cases x y (reduced-one one_player_tree 0 1 (x ∷ y ∷ []) one_player-goes_on r)) [
  | inl p ↦ (0, omega arith, cc (p.0, p.1))
  | inr q ↦ elim q [ inl p ↦ (1, omega arith, cc (p.0, p.1)) | inr p ↦ (2, omega arith, cc (p.0, p.1)) ]
]

-- ---- the tree with the other numbers
-- it is a tree
renumbered-tree : IsTree renumbered
renumbered-tree =
    tree-tested renumbered (record { some_node = refl; nodes = refl; edges = refl; sets = refl }) (λ s l e. coin_toss renumbered s refl (λ a. refl))

-- set 0 is reached by the second action at set 1 alone
renumbered-second : (choice : ℕ → ℕ) → IsReachedUnder renumbered 0 choice 0 → choice 1 ≡ 2
renumbered-second choice (zero, l, e, h) = cc
renumbered-second choice (suc zero, l, e, h) = cc
renumbered-second choice (suc (suc zero), l, e, h) = h.0
renumbered-second choice (suc (suc (suc zero)), l, e, h) = cc
renumbered-second choice (suc (suc (suc (suc zero))), l, e, h) = cc
renumbered-second choice (suc (suc (suc (suc (suc k)))), l, e, h) = absurd (omega arith)

-- it ends or goes on
renumbered-goes_on : EndsOrGoesOn renumbered 1 0
renumbered-goes_on =
    record {
      first_set = omega arith;
      first_own = refl;
      second_set = omega arith;
      second_own = refl;
      no_other_set = λ s l. ⊎_elim inr inl (below_two s l);
      two_actions = λ s. refl;
      first_reached = λ choice. (0, omega arith, refl, tt);
      second_reached = λ choice. (renumbered-second choice, λ e. (2, omega arith, refl, (e, tt)));
    }

-- its reduced strategies
abbrev renumbered_three : List (List ℕ)
renumbered_three = (0 ∷ 1 ∷ []) ∷ (1 ∷ 2 ∷ []) ∷ (2 ∷ 2 ∷ []) ∷ []

-- each is a reduced strategy
renumbered-sound : All (IsReduced renumbered 0) renumbered_three
renumbered-sound zero d l = one-reduced renumbered 1 0 (0 ∷ 1 ∷ []) renumbered-goes_on refl ends
renumbered-sound (suc zero) d l = one-reduced renumbered 1 0 (1 ∷ 2 ∷ []) renumbered-goes_on refl (goes_on 1 (omega arith) (omega arith))
renumbered-sound (suc (suc zero)) d l = one-reduced renumbered 1 0 (2 ∷ 2 ∷ []) renumbered-goes_on refl (goes_on 2 (omega arith) (omega arith))
renumbered-sound (suc (suc (suc k))) d l = absurd (omega arith)

-- each reduced strategy is one of the three
renumbered-complete : (choices : List ℕ) → IsReduced renumbered 0 choices → Contains renumbered_three choices
renumbered-complete [] r = absurd (omega (arith, r.one_for_each))
renumbered-complete (x ∷ []) r = absurd (omega (arith, r.one_for_each))
renumbered-complete (x ∷ y ∷ z ∷ choices) r = absurd (omega (arith, r.one_for_each))
renumbered-complete (x ∷ y ∷ []) r = elim (one-cases y x (reduced-one renumbered 1 0 (x ∷ y ∷ []) renumbered-goes_on r)) [
  | inl p ↦ (0, omega arith, cc (p.0, p.1))
  | inr q ↦ elim q [ inl p ↦ (1, omega arith, cc (p.0, p.1)) | inr p ↦ (2, omega arith, cc (p.0, p.1)) ]
]

-- the law of the tree
pub one_player-strategies : ReducedStrategiesOfOnePlayer
one_player-strategies =
    record {
      tree = one_player-tree;
      strategies = record { ascending = (inl (omega arith), (inr (refl, inl (omega arith)), tt)); sound = one_player-sound; complete = one_player-complete };
      renumbered_tree = renumbered-tree;
      renumbered_strategies = record { ascending = (inl (omega arith), (inl (omega arith), tt)); sound = renumbered-sound; complete = renumbered-complete };
    }
