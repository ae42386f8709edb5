-- The tool `enummixed`: the text of the extreme equilibria of a game of two players, by strategies.
-- Source: Avis, Rosenberg, Savani and von Stengel 2010; Luce and Raiffa 1957.
use Rattle.std.specs.Prelude.{ℕ, Bool, true, false, List, Ok}
use Rattle.answers.specs.Answers.{Answer, ◌>>=◌, ◌>>◌, refused_by}
use Rattle.game_core.specs.Table.{GameTable, game_of}
use Rattle.game_core.specs.declared.game.Game.{Game}
use Rattle.kept_strategies.specs.Kept.{kept_of}
use Rattle.enummixed.specs.ExtremeText.{IsExtremeEquilibriaText, extreme_text, kept_text}
use Rattle.two_player_tools.specs.StrategicForms.{strategic_table}
use Rattle.two_player_tools.specs.TwoPlayers.{two_players}
use Rattle.refusals.specs.Told.{kept_refusal, mixed_refusal}
use Rattle.refusals.specs.declared.refusal.Refusal.{Refusal}

-- The text of the extreme equilibria of a table. They are looked for among all strategies where
-- these are asked for, and else among those that are kept where strictly dominated ones are
-- removed.
abbrev pub table_text : Bool → GameTable → Answer Refusal (List ℕ)
table_text true table = refused_by mixed_refusal (extreme_text (game_of table))
table_text false table = do
  kept ← refused_by kept_refusal (kept_of table)
  refused_by mixed_refusal (kept_text (game_of table) (game_of kept.table))

-- the answer of `enummixed`
abbrev pub enummixed : Bool → Game → Answer Refusal (List ℕ)
enummixed all game = do
  two_players game
  table ← strategic_table game
  table_text all table

-- ---- what each text is

-- a text has the lines of exactly the extreme equilibria of the game's strategic form, in order
pub record IsExtremeText (game : Game) (text : List ℕ) : Type 0 where
  pub table : GameTable
  pub is_form : strategic_table game (Ok table)
  pub is_text : IsExtremeEquilibriaText (game_of table) text

-- Each text of `enummixed` is so.
abbrev pub EnummixedTextsAreExtreme : Type 0
EnummixedTextsAreExtreme =
    (all : Bool) (game : Game) (text : List ℕ) → enummixed all game (Ok text)
    → IsExtremeText game text
