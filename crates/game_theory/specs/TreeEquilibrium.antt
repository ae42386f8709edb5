-- Equilibrium of a game tree. Source: Nash 1951; Kuhn 1953.
use Rattle.std.specs.Prelude.{ℕ, ◌<◌}
use Rattle.rational.specs.Rational.{◌≤ℚ◌}
use Rattle.game_theory.specs.Trees.{Tree}
use Rattle.game_theory.specs.Behaviour.{Behaviour, IsValid, IsChoice, payoff, reply}

-- A valid behaviour at which no player has a pure reply, one action at each own set, with a greater
-- payoff.
pub record IsEquilibrium (t : Tree) (b : Behaviour) : Type 0 where
  pub valid : IsValid t b
  pub no_better_reply : (i : ℕ) (choice : ℕ → ℕ) → i < t.players → IsChoice t i choice
      → payoff t (reply t b i choice) i ≤ℚ payoff t b i
