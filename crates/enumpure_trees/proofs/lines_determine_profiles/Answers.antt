use Rattle.enumpure_trees.proofs.EquilibriumLineLemmas.{lines-tell}
use Rattle.enumpure_trees.proofs.lines_determine_profiles.Goals as goal

pub returns : goal.returns
returns c = lines-tell
