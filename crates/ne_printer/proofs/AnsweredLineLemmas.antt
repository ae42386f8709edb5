-- A line has an answer.
use Rattle.std.proofs.Common.{ℕ, List, Ok, Err}
use Rattle.answers.specs.Answered.{IsAnswered}
use Rattle.ne_printer.specs.ReadLines.{line_in}
use Rattle.ne_printer.specs.declared.reading.LineStop.TheVariants as stops

-- its entries, or that it has none
pub line_in-answered : (line : List ℕ) → IsAnswered (line_in line)
line_in-answered line none = none (Err stops.Bad) (λ entries h. none (Ok entries) h)
