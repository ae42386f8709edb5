-- Where a set stands among its owner's own sets.
use Rattle.std.specs.Prelude.{ℕ, ◌<◌, ◌≡◌, List, length, slice_index, slice_get, Some}
use Rattle.game_theory.specs.OwnSets.{own_sets}
use Rattle.game_theory.specs.Trees.{Tree}

-- each player's set has its place in the list of its owner's own sets
pub record ArePlaces (t : Tree) (places : List ℕ) : Type 0 where
  pub one_for_each : length places ≡ t.sets
  pub are_places : (s i : ℕ) → s < t.sets → t.owner s ≡ Some i
      → slice_get (own_sets t i) (slice_index places s) ≡ Some s
