-- The laws of the lines of trees and of the choices that pass, each carried by the contract of a
-- function of this crate.
use Rattle.std.specs.Prelude.{ℕ, ◌≡◌, ◌↔◌, List, false, length, map, true}
use Rattle.game_theory.specs.Behaviour.{IsWholeChoice, pure}
use Rattle.game_theory.specs.Profiles.{IsProfile}
use Rattle.game_theory.specs.TreeEquilibrium.{IsEquilibrium}
use Rattle.game_theory.specs.Trees.{Tree, IsTree}
use Rattle.reduced_strategies.specs.StrategicForm.{AreStrategies}
use Rattle.subgames.specs.Perfect.{IsSubgamePerfect}
use Rattle.enumpure_trees.specs.PassingChoices.{Passes}
use Rattle.enumpure_trees.specs.TreeEquilibria.{profile_line, IsTreeEquilibriaText}

-- two profiles never have the same line
abbrev pub LinesDetermineProfiles : Type 0
LinesDetermineProfiles =
    (t : Tree) (strategies : List (List (List ℕ))) (one other : List ℕ) → IsTree t
    → AreStrategies t strategies → IsProfile (map length strategies) one
    → IsProfile (map length strategies) other
    → profile_line t strategies one ≡ profile_line t strategies other → one ≡ other

-- a tree has at most one text of equilibria
abbrev pub OneTextOfEquilibria : Type 0
OneTextOfEquilibria =
    (t : Tree) (strategies : List (List (List ℕ))) (one other : List ℕ)
    → IsTreeEquilibriaText t strategies one → IsTreeEquilibriaText t strategies other
    → one ≡ other

-- tested at the root alone and not as agents, a choice passes exactly where its behaviour is an
-- equilibrium of the tree
abbrev pub PassingAtRootIsEquilibrium : Type 0
PassingAtRootIsEquilibrium =
    (t : Tree) (choice : ℕ → ℕ) → IsWholeChoice t choice
    → Passes false false t choice ↔ IsEquilibrium t (pure choice)

-- tested wherever a subgame begins and not as agents, it passes exactly where its behaviour is
-- subgame-perfect
abbrev pub PassingInSubgamesIsPerfection : Type 0
PassingInSubgamesIsPerfection =
    (t : Tree) (choice : ℕ → ℕ) → IsWholeChoice t choice
    → Passes false true t choice ↔ IsSubgamePerfect t (pure choice)
