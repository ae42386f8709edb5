-- What is built is described.
use Rattle.written_trees.proofs.built_is_described.Goals as goal
use Rattle.written_trees.proofs.BuiltTreeLemmas.{built_is_so}

pub returns : goal.returns
returns c = built_is_so
