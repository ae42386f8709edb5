use Rattle.std.proofs.Common.{◌≡◌, ◌++◌, take}
use Rattle.convert_tables.specs.Names.{name_text}
use Rattle.convert_tables.proofs.names.push_name.Given as goal

abbrev pub invariant-loop-byte : goal.invariant-loop-byte
invariant-loop-byte l = l.text.items ≡ l.initial.text.items ++ name_text l.style (take l.byte-index l.name)
