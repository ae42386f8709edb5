use Rattle.std.proofs.Common.{◌≡◌, ◌++◌}
use Rattle.std.specs.List.{flat_map, range_with_len}
use Rattle.convert_tables.specs.Layouts.{others_profile, table_text}
use Rattle.convert_tables.proofs.tables.push_tables.Given as goal

abbrev pub invariant-loop-number : goal.invariant-loop-number
invariant-loop-number l =
    l.text.items ≡ l.initial.text.items ++ flat_map (λ k. table_text l.axes.style l.axes.table.now l.axes.row l.axes.column (others_profile l.axes.table.now l.axes.row l.axes.column k)) (range_with_len 0 l.number)
