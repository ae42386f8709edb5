use Rattle.reduced_strategies.proofs.TreeEquilibriaLemmas.{equilibria-same}
use Rattle.reduced_strategies.proofs.pure_equilibria_are_those_of_the_tree.Goals as goal

pub returns : goal.returns
returns c = equilibria-same
