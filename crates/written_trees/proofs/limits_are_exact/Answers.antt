-- The limits are exact.
use Rattle.written_trees.proofs.limits_are_exact.Goals as goal
use Rattle.written_trees.proofs.LimitLemmas.{limits_are_so}

pub returns : goal.returns
returns c = limits_are_so
