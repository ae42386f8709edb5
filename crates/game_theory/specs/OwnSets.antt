-- A player's own sets, and the nodes at which the player chooses.
use Rattle.std.specs.Prelude.{ℕ, ◌≡◌, List, length, map, slice_index_or, filter, Option, Some, None}
use Rattle.std.specs.List.{flat_map, range_with_len}
use Rattle.game_theory.specs.Trees.{Tree}
use Rattle.game_theory.specs.Behaviour.{is_index}

-- the numbers below n whose index is i, in order
abbrev pub numbers_with : (ℕ → Option ℕ) → ℕ → ℕ → List ℕ
numbers_with index i n = filter (λ k. is_index (index k) i) (range_with_len 0 n)

-- the places of a list at which an element's index is i, in order
abbrev pub places_with : {A : Type 0} → (A → Option ℕ) → List A → ℕ → List ℕ
places_with index xs i = numbers_with (λ k. slice_index_or (map index xs) k None) i (length xs)

-- player i's own sets, in order
abbrev pub own_sets : Tree → ℕ → List ℕ
own_sets t i = numbers_with t.owner i t.sets

-- the players' sets: player by player, and in each set by set
abbrev pub player_sets : Tree → List ℕ
player_sets t = flat_map (own_sets t) (range_with_len 0 t.players)

-- how many actions each of player i's own sets has
abbrev pub own_counts : Tree → ℕ → List ℕ
own_counts t i = map t.actions (own_sets t i)

-- how many actions each of the players' sets has
abbrev pub action_counts : Tree → List ℕ
action_counts t = map t.actions (player_sets t)

-- player i chooses at node k, which is in set s
pub record Chooses (t : Tree) (k i s : ℕ) : Type 0 where
  pub at_set : t.set k ≡ Some s
  pub own : t.owner s ≡ Some i

-- no player chooses at node k
abbrev pub NobodyChooses : Tree → ℕ → Type 0
NobodyChooses t k = (i s : ℕ) → Chooses t k i s → ⊥
