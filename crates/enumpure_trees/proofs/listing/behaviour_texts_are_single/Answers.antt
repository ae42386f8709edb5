use Rattle.enumpure_trees.specs.TreeEquilibria.{IsTreeEquilibriaText}
use Rattle.enumpure_trees.proofs.EquilibriumLineLemmas.{text-determined}
use Rattle.enumpure.proofs.OneTextLaws.{within_text_limit-single}
use Rattle.enumpure_trees.proofs.listing.behaviour_texts_are_single.Goals as goal

pub returns : goal.returns
returns c = λ t strategies. within_text_limit-single (IsTreeEquilibriaText t strategies) (text-determined t strategies)
