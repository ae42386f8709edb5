use Rattle.subgames.proofs.CutEquilibriumLemmas.{cut_equilibria_are_perfect}
use Rattle.subgames.proofs.laws.cut_equilibria_are_perfect.Goals as goal

pub returns : goal.returns
returns c = cut_equilibria_are_perfect
