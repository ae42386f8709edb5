use Rattle.efg_reader.proofs.AnsweredTreeLemmas.{tree_in-answered}
use Rattle.efg_reader.proofs.reading.trees_are_answered.Goals as goal

pub returns : goal.returns
returns c = tree_in-answered
