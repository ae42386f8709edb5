use Rattle.std.proofs.Common.{rules}
use Rattle.outside.proofs.MemInputsLemmas.{contains_iff_at}
use Rattle.outside.proofs.mem_inputs.MemInputs.counts_failing.Goals as goal

pub returns-clause-fails : goal.returns-clause-fails
returns-clause-fails c = contains_iff_at _ _ _ _ _ (search rules) (search rules) c.contains.ensures.cases
