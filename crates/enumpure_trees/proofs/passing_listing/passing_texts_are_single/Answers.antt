use Rattle.enumpure_trees.proofs.OneTextLaws.{passing_text-single}
use Rattle.enumpure_trees.proofs.passing_listing.passing_texts_are_single.Goals as goal

pub returns : goal.returns
returns c = passing_text-single
