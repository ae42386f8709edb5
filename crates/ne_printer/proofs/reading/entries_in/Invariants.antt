use Rattle.std.proofs.Common.{map}
use Rattle.std.specs.List.{AllZip}
use Rattle.ne_printer.specs.ReadLines.{IsFraction}
use Rattle.ne_printer.proofs.reading.entries_in.Given as goal

abbrev pub invariant-loop-part : goal.invariant-loop-part
invariant-loop-part l = AllZip IsFraction (map (λ part. part.now) l.yielded) l.entries.items
