use Rattle.std.proofs.Common.{◌≡◌, ◌++◌, take}
use Rattle.std.specs.List.{flat_map}
use Rattle.convert_tables.specs.Layouts.{column_text}
use Rattle.convert_tables.proofs.tables.push_column_names.Given as goal

abbrev pub invariant-loop-name : goal.invariant-loop-name
invariant-loop-name l = l.text.items ≡ l.initial.text.items ++ flat_map (column_text l.style) (take l.name-index l.names)
