use Rattle.zero_sum_lp.specs.Programs.{program_of}
use Rattle.sequence_data.specs.Data.{side_of}
use Rattle.sequence_forms.specs.Sides.{sequences}
use Rattle.lex_tableau.specs.Entries.{AreEntries}
use Rattle.sequence_data.specs.Matrices.{number_at}
use Rattle.zero_sum_lp.proofs.system.entries.Given as goal

abbrev pub invariant-loop-k : goal.invariant-loop-k
invariant-loop-k l = AreEntries (program_of (side_of l.first) (side_of l.second) (number_at l.gains (sequences (side_of l.second)))) l.size l.k l.cells.items
