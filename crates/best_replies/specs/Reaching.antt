-- How probable it is that a node is reached, and the weight of a node for a player's replies.
-- Source: Kuhn 1953; von Stengel 1996.
use Rattle.std.specs.Prelude.{ℕ, if◌then◌else◌}
use Rattle.rational.specs.Rational.{ℚ, ◌*ℚ◌, one_ℚ}
use Rattle.game_theory.specs.Trees.{Tree}
use Rattle.game_theory.specs.Behaviour.{Behaviour, branch_probability, is_own}
use Rattle.game_theory.specs.Paths.{on_path}

-- the probability with which node k is reached: the product of the probabilities of the actions on
-- the path to it
abbrev pub reach : Tree → Behaviour → ℕ → ℚ
reach t b k = on_path t one_ℚ (λ c before. before *ℚ branch_probability t b c) k

-- a behaviour in which player i's own actions count 1
abbrev pub own_as_one : Tree → Behaviour → ℕ → Behaviour
own_as_one t b i s a = if is_own t i s then one_ℚ else b s a

-- the weight of node k for player i: the product of the probabilities of chance's and the other
-- players' actions on the path to it
abbrev pub weight : Tree → Behaviour → ℕ → ℕ → ℚ
weight t b i k = reach t (own_as_one t b i) k
