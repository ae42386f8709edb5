use Rattle.enumpure_trees.proofs.AnsweredBehaviourLemmas.{behaviour_text-answered}
use Rattle.enumpure_trees.proofs.listing.behaviour_texts_are_answered.Goals as goal

pub returns : goal.returns
returns c = behaviour_text-answered
