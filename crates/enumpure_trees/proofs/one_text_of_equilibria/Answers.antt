use Rattle.enumpure_trees.proofs.EquilibriumLineLemmas.{text-determined}
use Rattle.enumpure_trees.proofs.one_text_of_equilibria.Goals as goal

pub returns : goal.returns
returns c = text-determined
