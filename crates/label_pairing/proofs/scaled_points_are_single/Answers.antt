use Rattle.label_pairing.proofs.ScaledPointLemmas.{scaled_points-single}
use Rattle.label_pairing.proofs.scaled_points_are_single.Goals as goal

pub returns : goal.returns
returns c = scaled_points-single
