-- What is answered where a table is laid out. The row player and the column player are numbered
-- from 1.
use Rattle.std.specs.Prelude.{ℕ, ◌-◌, ◌<◌, ◌≤◌, ◌≡◌, List, length}
use Rattle.answers.specs.Answers.{Answer, ◌>>◌, refuse_where, refused_by}
use Rattle.game_core.specs.Table.{GameTable}
use Rattle.game_core.specs.Limits.{first_above, limited_text, most_text}
use Rattle.game_core.specs.declared.too_large.What.TheVariants.{Text}
use Rattle.convert_tables.specs.declared.marks.Style.{Style}
use Rattle.convert_tables.specs.declared.marks.Style.TheVariants.{Html, Sgame}
use Rattle.convert_tables.specs.declared.stops.ConvertStop.{ConvertStop}
use Rattle.convert_tables.specs.declared.stops.ConvertStop.TheVariants as stops
use Rattle.convert_tables.specs.declared.stops.LayoutStop.{LayoutStop}
use Rattle.convert_tables.specs.declared.stops.LayoutStop.TheVariants as layout_stops
use Rattle.convert_tables.specs.Layouts.{layout}

-- the stop that a layout's becomes
abbrev pub layout_stop : LayoutStop → ConvertStop
layout_stop layout_stops.TooLong = stops.TooLarge (first_above Text most_text)
layout_stop layout_stops.Memory = stops.Memory

-- a number of a player
abbrev pub IsPlayer : GameTable → ℕ → Type 0
IsPlayer t number = (0 < number) × (number ≤ length t.players)

-- the layout, where both are players and not the same, and it is within the limit on texts
abbrev pub laid_out : Style → GameTable → ℕ → ℕ → Answer ConvertStop (List ℕ)
laid_out style t row column =
    refuse_where (¬ (IsPlayer t row)) (stops.NoSuchPlayer row)
    >> refuse_where (¬ (IsPlayer t column)) (stops.NoSuchPlayer column)
    >> refuse_where (row ≡ column) (stops.SamePlayer row)
    >> refused_by stops.TooLarge (limited_text (layout style t (row - 1) (column - 1)))

-- as tables of HTML
abbrev pub html_text : GameTable → ℕ → ℕ → Answer ConvertStop (List ℕ)
html_text = laid_out Html

-- as a game of the LaTeX package sgame
abbrev pub sgame_text : GameTable → ℕ → ℕ → Answer ConvertStop (List ℕ)
sgame_text = laid_out Sgame
