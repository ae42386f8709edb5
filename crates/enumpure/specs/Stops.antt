-- The text of the profiles that pass, and that of a game's pure equilibria, where it is within the
-- limit on texts.
use Rattle.std.specs.Prelude.{ℕ, Bool, List, length}
use Rattle.game_core.specs.Limits.{limited_text}
use Rattle.answers.specs.Answers.{Answer, ◌>>=◌, refused_by, such_that}
use Rattle.game_theory.specs.Lines.{lines_text}
use Rattle.game_theory.specs.Profiles.{Game}
use Rattle.enumpure.specs.Ranks.{lines_below}
use Rattle.enumpure.specs.Text.{IsPureEquilibriaText}
use Rattle.enumpure.specs.declared.listing.ListStop.{ListStop}
use Rattle.enumpure.specs.declared.listing.ListStop.TheVariants as stops

-- the text of which this is said, where it is within the limit on texts
abbrev pub within_text_limit : (List ℕ → Type 0) → Answer ListStop (List ℕ)
within_text_limit IsText = do
  text ← such_that IsText
  refused_by stops.TooLarge (limited_text text)

-- the text of a game's pure equilibria
abbrev pub pure_text : Game → Answer ListStop (List ℕ)
pure_text game = within_text_limit (IsPureEquilibriaText game)

-- the text of the profiles that pass, where the players have these numbers of strategies
abbrev pub profiles_text : List ℕ → List Bool → Answer ListStop (List ℕ)
profiles_text counts passes =
    refused_by stops.TooLarge
    (limited_text (lines_text (lines_below counts passes (length passes))))
