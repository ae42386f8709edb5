use Rattle.label_pairing.proofs.ScaledPointLemmas.{scaled_points-answered}
use Rattle.label_pairing.proofs.scaled_points_are_answered.Goals as goal

pub returns : goal.returns
returns c = scaled_points-answered
