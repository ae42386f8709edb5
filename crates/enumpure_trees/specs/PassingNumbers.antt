-- The choices that are equilibria at nodes, by their numbers.
use Rattle.std.specs.Prelude.{ℕ, ◌<◌, ◌≡◌, ◌↔◌, Bool, IsTrue, List, Contains, length}
use Rattle.enumpure.specs.Replies.{plays_best}
use Rattle.game_theory.specs.Behaviour.{pure}
use Rattle.game_theory.specs.Trees.{Tree}
use Rattle.enumpure_trees.specs.Choices.{numbered_choice, whole_choices}
use Rattle.enumpure_trees.specs.PassingChoices.{IsTestedEquilibriumAt}

-- for each choice whether it is an equilibrium at each of these nodes
pub record ArePassing (agents : Bool) (t : Tree) (nodes : List ℕ)
    (passing : List Bool) : Type 0 where
  pub of_each : length passing ≡ whole_choices t
  pub all_passing : (n : ℕ) → n < whole_choices t → IsTrue (plays_best passing n)
      ↔ ((k : ℕ) → Contains nodes k → IsTestedEquilibriumAt agents t (pure (numbered_choice t n)) k)
