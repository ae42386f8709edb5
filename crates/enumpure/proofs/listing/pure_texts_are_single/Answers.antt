use Rattle.enumpure.proofs.OneTextLaws.{pure_text-single}
use Rattle.enumpure.proofs.listing.pure_texts_are_single.Goals as goal

pub returns : goal.returns
returns c = pure_text-single
