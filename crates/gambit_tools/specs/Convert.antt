-- The tool `convert`: the layout of a game's strategic form.
use Rattle.std.specs.Prelude.{ℕ, ◌-◌, ◌≡◌, ◌≢◌, List, Ok}
use Rattle.answers.specs.Answers.{Answer, ◌>>=◌, refused_by}
use Rattle.game_core.specs.Table.{GameTable}
use Rattle.game_core.specs.declared.game.Game.{Game}
use Rattle.convert_tables.specs.Converted.{IsPlayer, html_text, sgame_text}
use Rattle.convert_tables.specs.Layouts.{layout}
use Rattle.convert_tables.specs.declared.marks.Style.{Style}
use Rattle.convert_tables.specs.declared.marks.Style.TheVariants as style
use Rattle.convert_tables.specs.declared.stops.ConvertStop.{ConvertStop}
use Rattle.refusals.specs.Told.{convert_refusal}
use Rattle.refusals.specs.declared.refusal.Refusal.{Refusal}
use Rattle.two_player_tools.specs.StrategicForms.{strategic_table}
use Rattle.words.specs.declared.Layout.{Layout}
use Rattle.words.specs.declared.Layout.TheVariants.{Html, Sgame}

-- a table in HTML, or for the LaTeX package sgame
abbrev pub layout_in : Layout → GameTable → ℕ → ℕ → Answer ConvertStop (List ℕ)
layout_in Html = html_text
layout_in Sgame = sgame_text

-- the answer of `convert`
abbrev pub convert : Layout → (row column : ℕ) → Game → Answer Refusal (List ℕ)
convert layout row column game = do
  table ← strategic_table game
  refused_by convert_refusal (layout_in layout table row column)

-- the style of a layout
abbrev pub style_of : Layout → Style
style_of Html = style.Html
style_of Sgame = style.Sgame

-- the text is the table of the game's strategic form, laid out with these two players, who are
-- numbered from 1
pub record IsLayoutText (shape : Layout) (row column : ℕ) (game : Game)
    (text : List ℕ) : Type 0 where
  pub table : GameTable
  pub is_form : strategic_table game (Ok table)
  pub row_is_player : IsPlayer table row
  pub column_is_player : IsPlayer table column
  pub apart : row ≢ column
  pub is_layout : text ≡ layout (style_of shape) table (row - 1) (column - 1)
