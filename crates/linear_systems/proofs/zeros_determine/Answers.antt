use Rattle.linear_systems.proofs.SmallStepLemmas.{extreme_alone}
use Rattle.linear_systems.proofs.zeros_determine.Goals as goal

pub returns : goal.returns
returns c = λ s p q hp hq z. extreme_alone s p q hp hq.point z
