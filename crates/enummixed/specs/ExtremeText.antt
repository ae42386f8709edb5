-- The text of `gambit enummixed`, and why there is none (Avis et al. 2010)
use Rattle.std.specs.Prelude.{ℕ, List, map}
use Rattle.answers.specs.Answers.{Answer, only, ◌>>=◌, ◌>>◌, refused_by}
use Rattle.game_theory.specs.Profiles.{Game}
use Rattle.game_theory.specs.Lines.{IsTextOf}
use Rattle.extreme_equilibria.specs.ExtremeEquilibria.{AreExtremeEquilibria}
use Rattle.enumpure.specs.Stops.{within_text_limit}
use Rattle.reply_polytope.specs.Stops.{polytopes_in}
use Rattle.basis_enum.specs.Systems.{variable_count}
use Rattle.basis_enum.specs.Vertices.{VertexList}
use Rattle.label_pairing.specs.Stops.{pairs_in}
use Rattle.label_pairing.specs.declared.pairing.PairStop.{PairStop}
use Rattle.enummixed.specs.BothVertices.{both_vertices_in}
use Rattle.enummixed.specs.Used.{all_labels, occurs, used_points, scaling_in}
use Rattle.enummixed.specs.Told.{polytopes_stop, pairs_stop, scale_stop, text_stop}
use Rattle.enummixed.specs.declared.stop.MixedStop.{MixedStop}

-- the lines of the game's extreme equilibria, one after another
abbrev pub IsExtremeEquilibriaText : Game → List ℕ → Type 0
IsExtremeEquilibriaText game = IsTextOf (AreExtremeEquilibria game)

-- the vertices of both polytopes, and the places of those that together have all labels
pub record VertexPairs : Type 0 where
  pub first : VertexList
  pub second : VertexList
  pub pairs : List (ℕ × ℕ)

-- the places of the vertices that together have all of n labels
abbrev pub pairs_of_labels : ℕ → VertexList → VertexList → Answer PairStop (List (ℕ × ℕ))
pairs_of_labels n first second = pairs_in (all_labels n) first.list second.list

-- The pairs of a game: the polytopes are numbered 0 and 1. The points of the vertices that stand in
-- a pair are scaled.
abbrev pub extreme_pairs : Game → Answer MixedStop VertexPairs
extreme_pairs game = do
  systems ← refused_by polytopes_stop (polytopes_in game)
  both ← both_vertices_in systems.0 systems.1
  pairs ← refused_by pairs_stop (pairs_of_labels (variable_count systems.0) both.0 both.1)
  refused_by (scale_stop 0) (scaling_in (used_points both.0.list (occurs (map (λ p. p.0) pairs))))
  refused_by (scale_stop 1) (scaling_in (used_points both.1.list (occurs (map (λ p. p.1) pairs))))
  only (record { first = both.0; second = both.1; pairs = pairs })

-- The text of a game's extreme equilibria, found by the pairs of another: of the game over the kept
-- strategies, or of the game itself.
abbrev pub kept_text : Game → Game → Answer MixedStop (List ℕ)
kept_text game kept = do
  extreme_pairs kept
  refused_by text_stop (within_text_limit (IsExtremeEquilibriaText game))

-- the text of a game's extreme equilibria, where the pairs can be made and scaled
abbrev pub extreme_text : Game → Answer MixedStop (List ℕ)
extreme_text game = kept_text game game
