use Rattle.std.proofs.Common.{◌≡◌, map, take}
use Rattle.ne_printer.specs.Entries.{entries_text}
use Rattle.enummixed.proofs.writing.entries_texts.Given as goal

abbrev pub invariant-loop-point : goal.invariant-loop-point
invariant-loop-point l = map (λ v. v.items) l.texts.items ≡ map (λ v. entries_text v.items) (take l.point-index l.points)
