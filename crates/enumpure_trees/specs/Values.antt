-- The values of nodes under each choice, and the steps in which they are computed.
use Rattle.std.specs.Prelude.{ℕ, ◌*◌, List, length, map}
use Rattle.std.specs.List.{flat_map, range_with_len}
use Rattle.frac128.specs.Steps.{Step}
use Rattle.game_theory.specs.Trees.{Tree}
use Rattle.pure_payoffs.specs.Steps.{steps_at}
use Rattle.pure_payoffs.specs.Stops.{node_players, node_values}
use Rattle.rational.specs.Rational.{ℚ}
use Rattle.enumpure_trees.specs.Choices.{numbered_choice, whole_choices}

-- which value: of the choice with a number, at a node, for a player
pub record ValueIndex : Type 0 where
  pub choice : ℕ
  pub node : ℕ
  pub player : ℕ

-- the index of the value of a node for a player under the choice with a number
abbrev pub value_index : ℕ → ℕ × ℕ → ValueIndex
value_index choice pair = record { choice = choice; node = pair.0; player = pair.1 }

-- those of one choice
abbrev pub indices_of : Tree → List ℕ → ℕ → List ValueIndex
indices_of t nodes n = map (value_index n) (node_players t nodes)

-- those of all choices in order
abbrev pub value_indices : Tree → List ℕ → List ValueIndex
value_indices t nodes = flat_map (indices_of t nodes) (range_with_len 0 (whole_choices t))

-- how many there are
abbrev pub value_count : Tree → List ℕ → ℕ
value_count t nodes = whole_choices t * (length nodes * t.players)

-- the values of one choice
abbrev pub values_of : Tree → List ℕ → ℕ → List ℚ
values_of t nodes n = node_values t (numbered_choice t n) nodes

-- the values of all choices in order
abbrev pub choice_values : Tree → List ℕ → List ℚ
choice_values t nodes = flat_map (values_of t nodes) (range_with_len 0 (whole_choices t))

-- the steps of the value with an index
abbrev pub value_steps : Tree → ValueIndex → List Step
value_steps t v = steps_at t (numbered_choice t v.choice) v.player v.node
