-- The laws of reduced strategies, each carried by the contract of a function of this crate. None
-- wants perfect recall.
use Rattle.std.specs.Prelude.{ℕ, suc, ◌<◌, ◌≡◌, ◌↔◌, List, map, length, Some}
use Rattle.game_theory.specs.OwnSets.{own_sets}
use Rattle.game_theory.specs.Profiles.{IsProfile}
use Rattle.game_theory.specs.Mixed.{pure as pure_profile}
use Rattle.game_theory.specs.Equilibrium.{IsEquilibrium as is_table_equilibrium}
use Rattle.game_theory.specs.Trees.{Tree, IsTree}
use Rattle.game_theory.specs.Behaviour.{IsChoice, payoff, pure}
use Rattle.game_theory.specs.TreeEquilibrium.{IsEquilibrium}
use Rattle.game_theory.specs.Recall.{own_history}
use Rattle.reduced_strategies.specs.Choices.{IsReduced, Agrees, choice_at, AreReducedStrategies}
use Rattle.reduced_strategies.specs.StrategicForm.{AreStrategies, IsCompletion, completed, strategic_form}

-- every completion of a profile pays its cell
abbrev pub CompletionsPayTheCell : Type 0
CompletionsPayTheCell =
    (t : Tree) (strategies : List (List (List ℕ))) (profile : List ℕ) (choice : ℕ → ℕ) (i : ℕ)
    → IsTree t → AreStrategies t strategies
    → IsProfile (map length strategies) profile → IsCompletion t strategies profile choice
    → payoff t (pure choice) i ≡ payoff t (pure (completed t strategies profile)) i

-- the profile with first actions is a completion
abbrev pub FirstActionsComplete : Type 0
FirstActionsComplete =
    (t : Tree) (strategies : List (List (List ℕ))) (profile : List ℕ) → IsTree t
    → AreStrategies t strategies
    → IsProfile (map length strategies) profile
    → IsCompletion t strategies profile (completed t strategies profile)

-- the one reduced strategy that a choice completes
pub record HasReduced (t : Tree) (i : ℕ) (choice : ℕ → ℕ) : Type 0 where
  pub choices : List ℕ
  pub is_reduced : IsReduced t i choices
  pub is_completed : (s : ℕ) → 0 < choice_at (own_sets t i) choices s
      → choice_at (own_sets t i) choices s ≡ suc (choice s)
  pub only_one : (other : List ℕ) → IsReduced t i other
      → ((s : ℕ) → 0 < choice_at (own_sets t i) other s
      → choice_at (own_sets t i) other s ≡ suc (choice s)) → other ≡ choices

-- every choice of actions has its reduced strategy, which it completes, and completes no other
abbrev pub ChoicesHaveReduced : Type 0
ChoicesHaveReduced =
    (t : Tree) (i : ℕ) (choice : ℕ → ℕ) → IsTree t → IsChoice t i choice → HasReduced t i choice

-- a profile is an equilibrium of the strategic form exactly where, completed, it is one of the
-- tree: no player has a better pure reply
abbrev pub PureEquilibriaAreThoseOfTheTree : Type 0
PureEquilibriaAreThoseOfTheTree =
    (t : Tree) (strategies : List (List (List ℕ))) (profile : List ℕ) → IsTree t
    → AreStrategies t strategies
    → IsProfile (map length strategies) profile
    → is_table_equilibrium (strategic_form t strategies) (pure_profile profile)
    ↔ IsEquilibrium t (pure (completed t strategies profile))

-- completed choices tell the reduced strategies
abbrev pub CompletedChoicesDetermineStrategies : Type 0
CompletedChoicesDetermineStrategies =
    (t : Tree) (strategies : List (List (List ℕ))) (one other : List ℕ) → IsTree t
    → AreStrategies t strategies
    → IsProfile (map length strategies) one → IsProfile (map length strategies) other
    → ((s i : ℕ) → s < t.sets → t.owner s ≡ Some i
    → completed t strategies one s ≡ completed t strategies other s)
    → one ≡ other

-- a player has a list of reduced strategies
abbrev pub StrategiesExist : Type 0
StrategiesExist = (t : Tree) (i : ℕ) → IsTree t
    → (strategies : List (List ℕ)) × AreReducedStrategies t i strategies

-- and only one
abbrev pub OneListOfStrategies : Type 0
OneListOfStrategies = (t : Tree) (i : ℕ) (one other : List (List ℕ)) → AreReducedStrategies t i one
    → AreReducedStrategies t i other → one ≡ other

-- two reduced strategies under which the same nodes can be reached are one
abbrev pub NodesDetermineStrategies : Type 0
NodesDetermineStrategies =
    (t : Tree) (i : ℕ) (one other : List ℕ) → IsTree t → IsReduced t i one → IsReduced t i other
    → ((k : ℕ) → k < t.size
    → Agrees (choice_at (own_sets t i) one) (own_history t i k)
    ↔ Agrees (choice_at (own_sets t i) other) (own_history t i k))
    → one ≡ other
