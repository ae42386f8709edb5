-- One action at each player's set: that of a profile of reduced strategies, or one from a list.
use Rattle.std.specs.Prelude.{ℕ, ◌≡◌, List, length, map, slice_index}
use Rattle.game_theory.specs.Behaviour.{IsWholeChoice}
use Rattle.game_theory.specs.Profiles.{IsProfile}
use Rattle.game_theory.specs.Trees.{Tree}
use Rattle.reduced_strategies.specs.Places.{ArePlaces}
use Rattle.reduced_strategies.specs.StrategicForm.{AreStrategies, completed}
use Rattle.pure_payoffs.specs.declared.choices.Choices.{Choices}
use Rattle.pure_payoffs.specs.declared.choices.Choices.TheVariants.{Actions, Reduced}

-- the places of the sets, and a profile of the tree's reduced strategies
pub record AreReduced (t : Tree) (places : List ℕ) (strategies : List (List (List ℕ)))
    (profile : List ℕ) : Type 0 where
  pub places_are : ArePlaces t places
  pub strategies_are : AreStrategies t strategies
  pub is_profile : IsProfile (map length strategies) profile

-- an entry for each set, and at each player's set one of its actions
pub record AreActions (t : Tree) (actions : List ℕ) : Type 0 where
  pub one_for_each : length actions ≡ t.sets
  pub are_actions : IsWholeChoice t (slice_index actions)

-- the choices are a tree's
abbrev pub AreChoices : Tree → Choices → Type 0
AreChoices t (Reduced places strategies profile) =
    AreReduced t places.now (map (λ v. map (λ w. w.items) v.items) strategies.now) profile.now
AreChoices t (Actions actions) = AreActions t actions.now

-- the choice at each set
abbrev pub chosen_by : Tree → Choices → ℕ → ℕ
chosen_by t (Reduced places strategies profile) =
    completed t (map (λ v. map (λ w. w.items) v.items) strategies.now) profile.now
chosen_by t (Actions actions) = slice_index actions.now
