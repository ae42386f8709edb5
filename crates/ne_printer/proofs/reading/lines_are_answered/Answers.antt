use Rattle.ne_printer.proofs.AnsweredLineLemmas.{line_in-answered}
use Rattle.ne_printer.proofs.reading.lines_are_answered.Goals as goal

pub returns : goal.returns
returns c = line_in-answered
