use Rattle.std.proofs.Common.{◌≡◌, ◌+◌, ◌*◌, ◌++◌}
use Rattle.std.specs.List.{flat_map, range_with_len}
use Rattle.convert_tables.specs.Layouts.{cell_text}
use Rattle.convert_tables.proofs.cells.push_cells.Given as goal

abbrev pub invariant-loop-column : goal.invariant-loop-column
invariant-loop-column l =
    l.text.items ≡ l.initial.text.items ++ flat_map (λ c. cell_text l.axes.style l.axes.table.now l.axes.row l.axes.column (l.first + l.axes.column_stride * c)) (range_with_len 0 l.column)
