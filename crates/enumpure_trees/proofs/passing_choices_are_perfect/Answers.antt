use Rattle.enumpure_trees.proofs.PassingLaws.{passing-perfect}
use Rattle.enumpure_trees.proofs.passing_choices_are_perfect.Goals as goal

pub returns : goal.returns
returns c = passing-perfect
