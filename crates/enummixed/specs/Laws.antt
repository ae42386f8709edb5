-- The laws of the tool, as statements. Each is proved by a function of src/lib.rt.
use Rattle.std.specs.Prelude.{◌≡◌, List, length, Ok}
use Rattle.answers.specs.Answers.{IsSingle}
use Rattle.rational.specs.Rational.{ℚ}
use Rattle.game_theory.specs.Profiles.{Game}
use Rattle.extreme_equilibria.specs.ExtremeEquilibria.{AreExtremeEquilibria}
use Rattle.enummixed.specs.ExtremeText.{VertexPairs, extreme_pairs, kept_text}

-- A game has at most one answer, a list of pairs or the reason why it has none ..
abbrev pub ExtremePairsAreSingle : Type 0
ExtremePairsAreSingle = (game : Game) → IsSingle (extreme_pairs game)

-- .. and at most one text, found by its own pairs or by those of another game.
abbrev pub ExtremeTextsAreSingle : Type 0
ExtremeTextsAreSingle = (game kept : Game) → IsSingle (kept_text game kept)

-- The pairs of a game are as many as its extreme equilibria.
abbrev pub PairsAreAsManyAsExtremeEquilibria : Type 0
PairsAreAsManyAsExtremeEquilibria =
    (game : Game) (found : VertexPairs) → extreme_pairs game (Ok found)
    → (lines : List (List ℚ)) × AreExtremeEquilibria game lines
    × (length lines ≡ length found.pairs)
