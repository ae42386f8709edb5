use Rattle.enumpure_trees.proofs.AnsweredPassingLemmas.{passing_text-answered}
use Rattle.enumpure_trees.proofs.passing_listing.passing_texts_are_answered.Goals as goal

pub returns : goal.returns
returns c = passing_text-answered
