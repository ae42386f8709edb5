-- How long a node's list of children is.
use Rattle.std.specs.Prelude.{ℕ, ◌<◌, ◌≡◌, List, [], length, slice_index_or, Option, Some, None}
use Rattle.game_theory.specs.Trees.{Tree}

-- how many actions a node's set has: none at an end
abbrev pub actions_at : Tree → Option ℕ → ℕ
actions_at t None = 0
actions_at t (Some s) = t.actions s

-- a list for each node, with as many members as the node's set has actions, and none at an end
pub record HaveAsMany (t : Tree) (lists : List (List ℕ)) : Type 0 where
  pub one_for_each : length lists ≡ t.size
  pub as_many : (k : ℕ) → k < t.size → length (slice_index_or lists k []) ≡ actions_at t (t.set k)
