-- The tool `convert` has at most one answer, and its refusals come from the contents of its input.
use Rattle.std.proofs.Common.{ℕ, ◌-◌, ◌≡◌, List, length, refl, Ok, Err, inl, inr, arith}
use Rattle.std.proofs.lemmas.Bool.{cases_lt}
use Rattle.answers.specs.Answers.{Answer, IsSingle, ◌>>◌, refuse_where, refused_by}
use Rattle.answers.proofs.AnswerLemmas.{bind-single, refused_by-single}
use Rattle.game_core.specs.Table.{GameTable}
use Rattle.game_core.specs.declared.game.Game.{Game}
use Rattle.convert_tables.specs.Converted.{IsPlayer, laid_out}
use Rattle.convert_tables.specs.Layouts.{layout}
use Rattle.convert_tables.specs.declared.marks.Style.{Style}
use Rattle.convert_tables.specs.declared.marks.Style.TheVariants.{Html, Sgame}
use Rattle.convert_tables.specs.declared.stops.ConvertStop.{ConvertStop}
use Rattle.convert_tables.specs.declared.stops.ConvertStop.TheVariants as convert_stop
use Rattle.convert_tables.proofs.OneLayoutLaws.{laid_out-single}
use Rattle.game_core.specs.Limits.{limited_text}
use Rattle.refusals.specs.Told.{convert_refusal}
use Rattle.refusals.specs.declared.refusal.Refusal.{Refusal}
use Rattle.two_player_tools.specs.StrategicForms.{strategic_table}
use Rattle.two_player_tools.proofs.StrategicFormLemmas.{strategic_table-single}
use Rattle.words.specs.declared.Layout.{Layout}
use Rattle.words.specs.declared.Layout.TheVariants as layouts
use Rattle.game_core.proofs.LimitLemmas.{text-same}
use Rattle.gambit_tools.specs.Convert.{IsLayoutText, convert, layout_in, style_of}
use Rattle.gambit_tools.proofs.FormContentLemmas.{AreReasons, IsOfContents, inner-reasons, strategic_table-contents, then-contents, then-reasons, told-contents, where-reasons}

-- ---- what the text is
-- a number that is not no player's is a player's
player-is : (table : GameTable) (number : ℕ) → ¬ (¬ (IsPlayer table number)) → IsPlayer table number
player-is table number h = elim (cases_lt 0 number) [
  | inl some ↦ elim (cases_lt (length table.players) number) [ inl more ↦ absurd (h (λ p. omega (arith, p.1, more))) | inr few ↦ (some, omega (arith, few)) ]
  | inr none ↦ absurd (h (λ p. omega (arith, p.0, none)))
]

laid_out-is : (shape : Layout) (table : GameTable) (row column : ℕ) (game : Game) (text : List ℕ) → strategic_table game (Ok table) → laid_out (style_of shape) table row column (Ok text) → IsLayoutText shape row column game text
laid_out-is shape table row column game text form h = record {
  table = table;
  is_form = form;
  row_is_player = player-is table row h.1.1.1;
  column_is_player = player-is table column h.1.1.2;
  apart = h.1.2;
  is_layout = text-same (layout (style_of shape) table (row - 1) (column - 1)) text h.2;
}

-- a text of `convert` is the layout of the strategic form
pub convert-is : (shape : Layout) (row column : ℕ) (game : Game) (text : List ℕ) → convert shape row column game (Ok text) → IsLayoutText shape row column game text
convert-is layouts.Html row column game text h = laid_out-is layouts.Html h.0 row column game text h.1 h.2
convert-is layouts.Sgame row column game text h = laid_out-is layouts.Sgame h.0 row column game text h.1 h.2

-- ---- one answer
layout_in-single : (shape : Layout) (table : GameTable) (row column : ℕ) → IsSingle (layout_in shape table row column)
layout_in-single layouts.Html table row column = laid_out-single Html table row column
layout_in-single layouts.Sgame table row column = laid_out-single Sgame table row column

pub convert-single : (shape : Layout) (row column : ℕ) (game : Game) → IsSingle (convert shape row column game)
convert-single shape row column game =
    bind-single (strategic_table game) (λ table. refused_by convert_refusal (layout_in shape table row column)) (strategic_table-single game)
    (λ table _. refused_by-single convert_refusal (layout_in shape table row column) (layout_in-single shape table row column))

-- ---- contents
laid_out-reasons : (style : Style) (t : GameTable) (row column : ℕ) → AreReasons convert_refusal (laid_out style t row column)
laid_out-reasons style t row column =
    let text = layout style t (row - 1) (column - 1) in
    let rows : Answer ConvertStop (Unit {0}) = refuse_where (¬ (IsPlayer t row)) (convert_stop.NoSuchPlayer row) in
    let columns : Answer ConvertStop (Unit {0}) = refuse_where (¬ (IsPlayer t column)) (convert_stop.NoSuchPlayer column) in
    let apart : Answer ConvertStop (Unit {0}) = refuse_where (row ≡ column) (convert_stop.SamePlayer row) in
    then-reasons convert_refusal ((rows >> columns) >> apart) (λ _. refused_by convert_stop.TooLarge (limited_text text))
    (then-reasons convert_refusal (rows >> columns) (λ _. apart)
    (then-reasons convert_refusal rows (λ _. columns) (where-reasons convert_refusal (¬ (IsPlayer t row)) (convert_stop.NoSuchPlayer row) refl)
    (λ _. where-reasons convert_refusal (¬ (IsPlayer t column)) (convert_stop.NoSuchPlayer column) refl))
    (λ _. where-reasons convert_refusal (row ≡ column) (convert_stop.SamePlayer row) refl))
    (λ _. inner-reasons convert_refusal convert_stop.TooLarge (limited_text text) (λ limit h. refl))

layout_in-reasons : (shape : Layout) (table : GameTable) (row column : ℕ) → AreReasons convert_refusal (layout_in shape table row column)
layout_in-reasons layouts.Html table row column = laid_out-reasons Html table row column
layout_in-reasons layouts.Sgame table row column = laid_out-reasons Sgame table row column

pub convert-contents : (shape : Layout) (row column : ℕ) (game : Game) (r : Refusal) → convert shape row column game (Err r) → IsOfContents r
convert-contents shape row column game =
    then-contents (strategic_table game) (λ table. refused_by convert_refusal (layout_in shape table row column)) (strategic_table-contents game)
    (λ table. told-contents convert_refusal (layout_in shape table row column) (layout_in-reasons shape table row column))
