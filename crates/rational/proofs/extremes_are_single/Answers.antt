use Rattle.rational.proofs.ExtremeLemmas.{greatest-single, least-single}
use Rattle.rational.proofs.extremes_are_single.Goals as goal

pub returns : goal.returns
returns c = record { greatest = greatest-single; least = least-single }
