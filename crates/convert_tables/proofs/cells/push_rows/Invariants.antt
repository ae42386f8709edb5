use Rattle.std.proofs.Common.{◌≡◌, ◌++◌}
use Rattle.std.specs.List.{flat_map, range_with_len}
use Rattle.convert_tables.specs.Layouts.{row_text}
use Rattle.convert_tables.proofs.cells.push_rows.Given as goal

abbrev pub invariant-loop-strategy : goal.invariant-loop-strategy
invariant-loop-strategy l =
    l.text.items ≡ l.initial.text.items ++ flat_map (row_text l.axes.style l.axes.table.now l.axes.row l.axes.column l.profile) (range_with_len 0 l.strategy)
