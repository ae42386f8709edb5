use Rattle.ne_printer.proofs.ReadBackLemmas.{line_reads}
use Rattle.ne_printer.proofs.reading.lines_read_back.Goals as goal

pub returns : goal.returns
returns c = line_reads
