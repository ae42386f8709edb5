-- Reduced strategies of a game tree. Source: von Stengel 1996; Kuhn 1953.
use Rattle.std.specs.Prelude.{ℕ, suc, ◌<◌, ◌≤◌, ◌≡◌, ◌↔◌, ◌==◌, if◌then◌else◌, List, [], ◌∷◌, length, All, Contains, Some}
use Rattle.game_theory.specs.OwnSets.{own_sets}
use Rattle.lists.specs.Orders.{AreAscending}
use Rattle.game_theory.specs.Trees.{Tree}
use Rattle.game_theory.specs.Recall.{own_history}

-- What a list of numbers gives a set of a list of sets, and 0 for any other set. A choice list of a
-- player gives so each own set in order an action, counted from 1, or 0, which is written `*`, for
-- none.
abbrev pub choice_at : List ℕ → List ℕ → ℕ → ℕ
choice_at (set ∷ sets) (choice ∷ choices) s = if set == s then choice else choice_at sets choices s
choice_at _ _ s = 0

-- a history agrees with choices: each action in it is chosen at its set
abbrev pub Agrees : (ℕ → ℕ) → List (ℕ × ℕ) → Type 0
Agrees choice [] = Unit {0}
Agrees choice (edge ∷ history) = (choice edge.0 ≡ suc edge.1) × Agrees choice history

-- a set is reached under choices of player i: some member's own history agrees with them
abbrev pub IsReachedUnder : Tree → ℕ → (ℕ → ℕ) → ℕ → Type 0
IsReachedUnder t i choice s =
    (k : ℕ) × (k < t.size) × (t.set k ≡ Some s) × Agrees choice (own_history t i k)

-- A reduced strategy of player i: a choice list that has an action at a set exactly where the set
-- is reached under it.
pub record IsReduced (t : Tree) (i : ℕ) (choices : List ℕ) : Type 0 where
  pub one_for_each : length choices ≡ length (own_sets t i)
  pub are_actions : (s : ℕ) → choice_at (own_sets t i) choices s ≤ t.actions s
  pub fixed_where_reached : (s : ℕ) → s < t.sets → t.owner s ≡ Some i
      → (0 < choice_at (own_sets t i) choices s)
      ↔ IsReachedUnder t i (choice_at (own_sets t i) choices) s

-- the reduced strategies of player i: all of them, each once, in order; `*` stands before all
-- actions
pub record AreReducedStrategies (t : Tree) (i : ℕ) (strategies : List (List ℕ)) : Type 0 where
  pub ascending : AreAscending strategies
  pub sound : All (IsReduced t i) strategies
  pub complete : (choices : List ℕ) → IsReduced t i choices → Contains strategies choices
