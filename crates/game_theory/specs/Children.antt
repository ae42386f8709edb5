-- The children of the nodes of a tree.
use Rattle.std.specs.Prelude.{ℕ, zero, suc, ◌<◌, ◌≡◌, ◌==◌, ◌&&◌, Bool, if◌then◌else◌, List, [], length, slice_get, slice_index_or, Some}
use Rattle.game_theory.specs.Trees.{Tree, IsChild}
use Rattle.game_theory.specs.Behaviour.{is_parent}

-- the last number below n that passes the test, and 0 where none does
abbrev pub last_below : ℕ → (ℕ → Bool) → ℕ
last_below zero passes = 0
last_below (suc n) passes = if passes n then n else last_below n passes

-- the node to which action a of node k leads
abbrev pub child : Tree → ℕ → ℕ → ℕ
child t k a = last_below t.size (λ c. is_parent t k c && (t.branch c == a))

-- a list for each node, which has for each action of the node's set the node to which it leads
pub record AreChildren (t : Tree) (lists : List (List ℕ)) : Type 0 where
  pub one_for_each : length lists ≡ t.size
  pub are_children : (k s a : ℕ) → k < t.size → t.set k ≡ Some s → a < t.actions s
      → (c : ℕ) × (slice_get (slice_index_or lists k []) a ≡ Some c) × IsChild t k a c
