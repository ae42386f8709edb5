use Rattle.ne_printer.proofs.LinesReadLemmas.{line_told}
use Rattle.ne_printer.proofs.reading.lines_are_single.Goals as goal

pub returns : goal.returns
returns c = line_told
