use Rattle.rational.proofs.MidpointLemmas.{midpoint_above, midpoint_below, midpoint_is}
use Rattle.rational.proofs.midpoints_lie_between.Goals as goal

pub returns : goal.returns
returns c = record { above = midpoint_above; below = midpoint_below; halfway = midpoint_is }
