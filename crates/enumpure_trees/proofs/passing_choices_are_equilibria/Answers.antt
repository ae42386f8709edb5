use Rattle.enumpure_trees.proofs.PassingLaws.{passing-equilibrium}
use Rattle.enumpure_trees.proofs.passing_choices_are_equilibria.Goals as goal

pub returns : goal.returns
returns c = passing-equilibrium
