use Rattle.std.proofs.Common.{◌≡◌, ◌++◌, [], sym, ap, ◌∙◌}
use Rattle.std.specs.List.{flat_map}
use Rattle.std.proofs.lemmas.Option.{get_or_from_slice_get}
use Rattle.convert_tables.specs.declared.marks.Mark.TheVariants.{ColumnsEnd}
use Rattle.convert_tables.specs.Layouts.{column_text, strategy_names, table_start}
use Rattle.convert_tables.specs.Marks.{mark_text}
use Rattle.convert_tables.proofs.NumberedTextLemmas.{three_parts}
use Rattle.convert_tables.proofs.tables.push_columns.Goals as goal

pub returns : goal.returns
returns c =
    let l = c.args.axes.now in
    let names : c.strategies.result.now ≡ strategy_names l.table.now l.column = sym (get_or_from_slice_get l.table.now.strategies l.column c.strategies.result.now [] c.strategies.ensures.strategies) in
    three_parts c.args.text.now.items (table_start l.style l.table.now l.row l.column) (flat_map (column_text l.style) (strategy_names l.table.now l.column)) (mark_text l.style ColumnsEnd) c.push_start.new.text.items c.push_column_names.new.text.items _ c.in_ok-push_start.ensures
    (c.in_ok-push_column_names.ensures ∙ ap (λ ns. c.push_start.new.text.items ++ flat_map (column_text l.style) ns) names)
    (c.in_ok-extend_from_slice.ensures.items ∙ ap (λ v. c.push_column_names.new.text.items ++ v) c.mark_text.ensures)
