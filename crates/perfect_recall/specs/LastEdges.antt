-- The last own edges before the nodes of a tree.
use Rattle.std.specs.Prelude.{ℕ, ◌<◌, ◌≡◌, List, length, slice_index_or, Option, None}
use Rattle.game_theory.specs.Trees.{Tree}
use Rattle.game_theory.specs.Recall.{own_history}
use Rattle.sequence_forms.specs.Sequences.{last_edge}
use Rattle.game_theory.specs.OwnSets.{Chooses, NobodyChooses}

-- the last own edge before node k of the player who chooses there, and none where nobody does
pub record IsEdgeBefore (t : Tree) (k : ℕ) (edge : Option (ℕ × ℕ)) : Type 0 where
  pub of_player : (i s : ℕ) → Chooses t k i s → edge ≡ last_edge (own_history t i k)
  pub of_nobody : NobodyChooses t k → edge ≡ None

-- such edges, for the first nodes
abbrev pub AreLastEdges : Tree → List (Option (ℕ × ℕ)) → Type 0
AreLastEdges t edges = (k : ℕ) → k < length edges → IsEdgeBefore t k (slice_index_or edges k None)
