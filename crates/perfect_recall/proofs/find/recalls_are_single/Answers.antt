use Rattle.perfect_recall.proofs.OneRecallLaws.{recall-single}
use Rattle.perfect_recall.proofs.find.recalls_are_single.Goals as goal

pub returns : goal.returns
returns c = λ t valid. recall-single t (c.trees_are_game_trees.ensures t valid)
