use Rattle.efg_reader.proofs.FileStopLemmas.{tree_in-single}
use Rattle.efg_reader.proofs.reading.trees_are_single.Goals as goal

pub returns : goal.returns
returns c = tree_in-single
