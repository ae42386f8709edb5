use Rattle.std.proofs.Common.{◌≡◌, ◌++◌, take}
use Rattle.ne_printer.specs.Entries.{entries_text, BeginsWith}
use Rattle.ne_printer.proofs.push_entries.Given as goal

abbrev pub invariant-loop-entry : goal.invariant-loop-entry
invariant-loop-entry l = record {
  entries : l.text.items ≡ l.initial.text.items ++ entries_text (take l.entry-index l.entries);
  kept : BeginsWith l.initial.text.items l.text.items;
}
