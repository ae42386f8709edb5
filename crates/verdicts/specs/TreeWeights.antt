-- The weights of the nodes as they are computed.
use Rattle.std.specs.Prelude.{ℕ, ◌<◌, ◌≡◌, List}
use Rattle.rational.specs.Rational.{ℚ}
use Rattle.rational.specs.Sum.{entry_at}
use Rattle.game_theory.specs.Trees.{Tree}
use Rattle.game_theory.specs.Behaviour.{Behaviour}
use Rattle.best_replies.specs.Reaching.{weight}

-- these are the weights of the first n nodes for player i
abbrev pub AreWeights : Tree → Behaviour → ℕ → List ℚ → ℕ → Type 0
AreWeights t b i weights n = (k : ℕ) → k < n → entry_at weights k ≡ weight t b i k
