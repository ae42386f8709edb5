-- The strategic form of a game tree. Source: von Stengel 1996.
use Rattle.std.specs.Prelude.{ℕ, suc, ◌-◌, ◌<◌, ◌≡◌, List, [], length, map, slice_index_or, slice_get, Option, None, Some}
use Rattle.game_theory.specs.OwnSets.{own_sets}
use Rattle.game_theory.specs.Profiles.{Game, profile_at}
use Rattle.game_theory.specs.Trees.{Tree}
use Rattle.game_theory.specs.Behaviour.{payoff, pure}
use Rattle.reduced_strategies.specs.Choices.{choice_at, AreReducedStrategies}

-- the reduced strategies of each player
pub record AreStrategies (t : Tree) (strategies : List (List (List ℕ))) : Type 0 where
  pub one_for_each : length strategies ≡ t.players
  pub are_reduced : (i : ℕ) (list : List (List ℕ)) → slice_get strategies i ≡ Some list
      → AreReducedStrategies t i list

-- the choice list of player i in a profile of strategies
abbrev pub list_of : List (List (List ℕ)) → List ℕ → ℕ → List ℕ
list_of strategies profile i =
    slice_index_or (slice_index_or strategies i []) (slice_index_or profile i 0) []

-- what a profile gives a set: the choice in its owner's list
abbrev pub given_by : Tree → List (List (List ℕ)) → List ℕ → ℕ → Option ℕ → ℕ
given_by t strategies profile s None = 0
given_by t strategies profile s (Some i) = choice_at (own_sets t i) (list_of strategies profile i) s

abbrev pub given_at : Tree → List (List (List ℕ)) → List ℕ → ℕ → ℕ
given_at t strategies profile s = given_by t strategies profile s (t.owner s)

-- the profile with the first action at each set to which it gives none
abbrev pub completed : Tree → List (List (List ℕ)) → List ℕ → ℕ → ℕ
completed t strategies profile s = given_at t strategies profile s - 1

-- a completion of a profile: one action at each set, and at a set to which the profile gives an
-- action that action
abbrev pub IsCompletion : Tree → List (List (List ℕ)) → List ℕ → (ℕ → ℕ) → Type 0
IsCompletion t strategies profile choice =
    (s i : ℕ) → s < t.sets → t.owner s ≡ Some i
    → (choice s < t.actions s)
    × (0 < given_at t strategies profile s → suc (choice s) ≡ given_at t strategies profile s)

-- The strategic form over these strategies: each profile pays what its completion pays on the tree.
abbrev pub strategic_form : Tree → List (List (List ℕ)) → Game
strategic_form t strategies = record {
  strategies = map length strategies;
  pays = λ i k. payoff t (pure (completed t strategies (profile_at (map length strategies) k))) i;
}
