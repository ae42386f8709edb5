use Rattle.game_theory.proofs.SubtreeLemmas.{value-agree}
use Rattle.game_theory.proofs.values_depend_on_subtrees.Goals as goal

pub returns : goal.returns
returns c = value-agree
