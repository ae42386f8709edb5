use Rattle.perfect_recall.proofs.AnsweredRecallLemmas.{recall-answered}
use Rattle.perfect_recall.proofs.find.recalls_are_answered.Goals as goal

pub returns : goal.returns
returns c = λ t valid. recall-answered t valid (c.trees_are_game_trees.ensures t valid)
