-- A table has an answer.
use Rattle.std.proofs.Common.{ℕ, ◌-◌, ◌≡◌}
use Rattle.answers.specs.Answers.{◌>>◌, refuse_where, refused_by}
use Rattle.answers.specs.Answered.{IsAnswered}
use Rattle.answers.proofs.AnsweredLemmas.{bind-answered, refuse_where-answered, refused_by-answered}
use Rattle.game_core.specs.Table.{GameTable}
use Rattle.game_core.specs.Limits.{limited_text}
use Rattle.game_core.proofs.AnsweredLimitLemmas.{limited_text-answered}
use Rattle.convert_tables.specs.declared.marks.Style.{Style}
use Rattle.convert_tables.specs.declared.stops.ConvertStop.TheVariants as stops
use Rattle.convert_tables.specs.Layouts.{layout}
use Rattle.convert_tables.specs.Converted.{IsPlayer, laid_out}

-- the layout, or why there is none
pub laid_out-answered : (style : Style) (t : GameTable) (row column : ℕ) → IsAnswered (laid_out style t row column)
laid_out-answered style t row column =
    let text = layout style t (row - 1) (column - 1) in
    let rows = refuse_where (¬ (IsPlayer t row)) (stops.NoSuchPlayer row) in
    let columns = refuse_where (¬ (IsPlayer t column)) (stops.NoSuchPlayer column) in
    let apart = refuse_where (row ≡ column) (stops.SamePlayer row) in
    bind-answered ((rows >> columns) >> apart) (λ _. refused_by stops.TooLarge (limited_text text))
    (bind-answered (rows >> columns) (λ _. apart) (bind-answered rows (λ _. columns) (refuse_where-answered _ _) (λ _ _. refuse_where-answered _ _)) (λ _ _. refuse_where-answered _ _))
    (λ _ _. refused_by-answered stops.TooLarge (limited_text text) (limited_text-answered text))
