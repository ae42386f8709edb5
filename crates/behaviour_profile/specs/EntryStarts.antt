-- Entries of behaviour, and the places among them at which those of each player's set begin; at a
-- set of chance stands 0.
use Rattle.std.specs.Prelude.{ℕ, ◌<◌, ◌≡◌, List, length, map, slice_index, sum, take, None}
use Rattle.std.specs.List.{flat_map, range_with_len}
use Rattle.rational.specs.Rational.{ℚ}
use Rattle.game_theory.specs.Trees.{Tree}
use Rattle.game_theory.specs.Behaviour.{Behaviour}
use Rattle.game_theory.specs.TreeEntries.{tree_entries}
use Rattle.game_theory.specs.OwnSets.{own_sets, player_sets}
use Rattle.game_core.specs.Tree.{GameTree}
use Rattle.game_core.specs.TreeGame.{game_of_tree}

-- these are the entries of some behaviour
abbrev pub AreBehaviourEntries : GameTree → List ℚ → Type 0
AreBehaviourEntries tree entries = (b : Behaviour) × (entries ≡ tree_entries (game_of_tree tree) b)

-- the sets of the first n players: player by player, and in each set by set
abbrev pub sets_below : Tree → ℕ → List ℕ
sets_below t n = flat_map (own_sets t) (range_with_len 0 n)

-- The place of each of these sets' first entry, where the sets' entries stand in this order: the
-- number of actions of the sets before it. At a set of chance stands 0.
pub record AreStartsOf (t : Tree) (sets starts : List ℕ) : Type 0 where
  pub long : length starts ≡ t.sets
  pub stand : (k : ℕ) → k < length sets
      → slice_index starts (slice_index sets k) ≡ sum (take k (map t.actions sets))
  pub chance : (s : ℕ) → s < t.sets → t.owner s ≡ None → slice_index starts s ≡ 0

-- at each player's set the place of its first entry among those of any behaviour, and 0 at a set of
-- chance
abbrev pub AreStarts : Tree → List ℕ → Type 0
AreStarts t = AreStartsOf t (player_sets t)
