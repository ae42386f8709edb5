-- Which choices pass: equilibria at the nodes at which they are tested, of the players or of the
-- agent form. Source: Selten 1965, 1975.
use Rattle.std.specs.Prelude.{ℕ, ◌<◌, ◌≡◌, ◌==◌, if◌then◌else◌, Bool, true, false, Some}
use Rattle.rational.specs.Rational.{◌≤ℚ◌}
use Rattle.game_theory.specs.Behaviour.{Behaviour, pure, value}
use Rattle.game_theory.specs.Mixed.{sure}
use Rattle.game_theory.specs.Trees.{Tree}
use Rattle.enumpure_trees.specs.TestNodes.{IsTestedAt}
use Rattle.subgames.specs.Perfect.{IsEquilibriumAt}

-- the behaviour with one action, and that surely, at set s alone
abbrev pub agent_reply : Behaviour → ℕ → ℕ → Behaviour
agent_reply b s action r a = if r == s then sure action a else b r a

-- at node k no player's set has an action that would, at this set alone, give its owner a greater
-- value of the node
abbrev pub IsAgentEquilibriumAt : Tree → Behaviour → ℕ → Type 0
IsAgentEquilibriumAt t b k =
    (s i action : ℕ) → s < t.sets → t.owner s ≡ Some i → action < t.actions s
    → value t (agent_reply b s action) i k ≤ℚ value t b i k

-- an equilibrium at node k, of the agent form or of the players
abbrev pub IsTestedEquilibriumAt : (agents : Bool) → Tree → Behaviour → ℕ → Type 0
IsTestedEquilibriumAt true = IsAgentEquilibriumAt
IsTestedEquilibriumAt false = IsEquilibriumAt

-- a choice passes: it is an equilibrium at each node at which it is tested
abbrev pub Passes : (agents perfect : Bool) → Tree → (ℕ → ℕ) → Type 0
Passes agents perfect t choice =
    (k : ℕ) → IsTestedAt perfect t k → IsTestedEquilibriumAt agents t (pure choice) k
