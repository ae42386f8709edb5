-- What is described is built.
use Rattle.written_trees.proofs.described_is_built.Goals as goal
use Rattle.written_trees.proofs.DescribedTreeLemmas.{described_is_so}

pub returns : goal.returns
returns c = described_is_so
