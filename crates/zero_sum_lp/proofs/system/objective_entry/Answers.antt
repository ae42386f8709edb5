use Rattle.std.proofs.Common.{◌∙◌, sym}
use Rattle.sequence_data.specs.Data.{side_of}
use Rattle.zero_sum_lp.proofs.SystemLemmas.{objective_elsewhere}
use Rattle.zero_sum_lp.proofs.system.objective_entry.Goals as goal

pub returns-else-column-sequences : goal.returns-else-column-sequences
returns-else-column-sequences c = c.zero.ensures ∙ objective_elsewhere (side_of c.args.first.now) c.args.column (λ e. c.if-column-sequences.false (e ∙ sym (c.sequences.ensures ∙ c.requires.side.sequences_are)))
