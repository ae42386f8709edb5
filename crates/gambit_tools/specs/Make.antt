-- The tool `make`: how many bases, vertices and equilibria a made table has.
-- Source: Avis, Rosenberg, Savani and von Stengel 2010.
use Rattle.std.specs.Prelude.{ℕ, ◌≡◌, List, ◌++◌, length, codes, Ok}
use Rattle.std.specs.Fmt.{decimal}
use Rattle.answers.specs.Answers.{Answer, only, ◌>>=◌, refused_by}
use Rattle.rational.specs.Rational.{ℚ}
use Rattle.game_theory.specs.Profiles.{Game}
use Rattle.extreme_equilibria.specs.ExtremeEquilibria.{AreExtremeEquilibria}
use Rattle.game_core.specs.Table.{game_of}
use Rattle.game_core.specs.MadeTables.{made_table}
use Rattle.enummixed.specs.ExtremeText.{VertexPairs, extreme_pairs}
use Rattle.refusals.specs.Told.{mixed_refusal}
use Rattle.refusals.specs.declared.refusal.Refusal.{Refusal}

-- the reached bases and the vertices of the first and the second polytope, and the pairs
abbrev pub count_lines : (first_bases second_bases first second pairs : ℕ) → List ℕ
count_lines first_bases second_bases first second pairs =
    codes "bases " ++ decimal first_bases ++ codes " " ++ decimal second_bases
    ++ codes "\nvertices " ++ decimal first ++ codes " " ++ decimal second
    ++ codes "\nequilibria " ++ decimal pairs ++ codes "\n"

-- the counts of what was found; the vertices are those that are not 0
abbrev pub counts_text : VertexPairs → List ℕ
counts_text v =
    count_lines v.first.bases v.second.bases (length v.first.list) (length v.second.list)
    (length v.pairs)

-- the answer of `make`: the counts of the table that is made from this number
abbrev pub make : (number rows columns : ℕ) → Answer Refusal (List ℕ)
make number rows columns = do
  pairs ← refused_by mixed_refusal (extreme_pairs (game_of (made_table number rows columns)))
  only (counts_text pairs)

-- ---- what each text is
-- the text has the counts of what was found in a game, and the pairs are as many as its extreme
-- equilibria
pub record IsCountsText (game : Game) (text : List ℕ) : Type 0 where
  pub found : VertexPairs
  pub is_found : extreme_pairs game (Ok found)
  pub is_text : text ≡ counts_text found
  pub lines : List (List ℚ)
  pub are_extreme_equilibria : AreExtremeEquilibria game lines
  pub as_many : length lines ≡ length found.pairs
