use Rattle.reduced_strategies.proofs.ReducedStrategyLemmas.{choices-have_reduced}
use Rattle.reduced_strategies.proofs.choices_have_reduced.Goals as goal

pub returns : goal.returns
returns c = choices-have_reduced
