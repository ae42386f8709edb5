-- Equilibria at a node of a game tree, and subgame-perfect behaviour. Source: Selten 1965.
use Rattle.std.specs.Prelude.{ℕ, ◌<◌}
use Rattle.rational.specs.Rational.{◌≤ℚ◌}
use Rattle.game_theory.specs.Behaviour.{Behaviour, IsChoice, IsValid, reply, value}
use Rattle.game_theory.specs.Trees.{Tree}
use Rattle.subgames.specs.Roots.{IsSubgameRoot}

-- at node k no player has a pure reply after which that player's value of the node is greater
abbrev pub IsEquilibriumAt : Tree → Behaviour → ℕ → Type 0
IsEquilibriumAt t b k =
    (i : ℕ) (choice : ℕ → ℕ) → i < t.players → IsChoice t i choice
    → value t (reply t b i choice) i k ≤ℚ value t b i k

-- valid behaviour that is an equilibrium at each node where a subgame begins, the root among them
pub record IsSubgamePerfect (t : Tree) (b : Behaviour) : Type 0 where
  pub valid : IsValid t b
  pub equilibria : (n : ℕ) → n < t.size → IsSubgameRoot t n → IsEquilibriumAt t b n
