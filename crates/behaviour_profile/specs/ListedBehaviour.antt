-- Behaviour whose probabilities stand in lists, one for each set of a tree.
use Rattle.std.specs.Prelude.{ℕ, ◌<◌, ◌≡◌, List, [], length, slice_index_or}
use Rattle.rational.specs.Rational.{ℚ}
use Rattle.rational.specs.Sum.{entry_at}
use Rattle.game_theory.specs.Behaviour.{Behaviour}
use Rattle.game_theory.specs.Trees.{Tree}

-- the behaviour with these probabilities
abbrev pub listed_behaviour : List (List ℚ) → Behaviour
listed_behaviour lists s = entry_at (slice_index_or lists s [])

-- there is a list for each set, with a number for each action
pub record HasProbabilities (t : Tree) (lists : List (List ℚ)) : Type 0 where
  pub one_for_each : length lists ≡ t.sets
  pub as_long : (s : ℕ) → s < t.sets → length (slice_index_or lists s []) ≡ t.actions s
