-- A table has at most one answer.
use Rattle.std.proofs.Common.{ℕ, ◌-◌, ◌≡◌}
use Rattle.answers.specs.Answers.{◌>>◌, refuse_where, refused_by, IsSingle}
use Rattle.answers.proofs.AnswerLemmas.{bind-single, refuse_where-single, refused_by-single}
use Rattle.game_core.specs.Table.{GameTable}
use Rattle.game_core.specs.Limits.{limited_text}
use Rattle.game_core.proofs.LimitLemmas.{limited_text-single}
use Rattle.convert_tables.specs.declared.marks.Style.{Style}
use Rattle.convert_tables.specs.declared.stops.ConvertStop.TheVariants as stops
use Rattle.convert_tables.specs.Layouts.{layout}
use Rattle.convert_tables.specs.Converted.{IsPlayer, laid_out}

-- a table has at most one answer: the layout, or why there is none
pub laid_out-single : (style : Style) (t : GameTable) (row column : ℕ) → IsSingle (laid_out style t row column)
laid_out-single style t row column =
    let text = layout style t (row - 1) (column - 1) in
    let rows = refuse_where (¬ (IsPlayer t row)) (stops.NoSuchPlayer row) in
    let columns = refuse_where (¬ (IsPlayer t column)) (stops.NoSuchPlayer column) in
    let apart = refuse_where (row ≡ column) (stops.SamePlayer row) in
    bind-single ((rows >> columns) >> apart) (λ _. refused_by stops.TooLarge (limited_text text))
    (bind-single (rows >> columns) (λ _. apart) (bind-single rows (λ _. columns) (refuse_where-single _ _) (λ _ _. refuse_where-single _ _)) (λ _ _. refuse_where-single _ _))
    (λ _ _. refused_by-single stops.TooLarge (limited_text text) (limited_text-single text))
